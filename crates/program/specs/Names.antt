-- The names by which files are asked of the system, and what is answered where one cannot be.
-- Assumes nothing.
use Rattle.std.specs.Prelude.{◌≡◌, ℕ, pos, List, Some}
use Rattle.std.specs.Str.{IsUtf8}
use Rattle.std.specs.declared.io.Error.{Error}
use Rattle.std.specs.IoError.{raw_os_error}

-- a name that is text: bytes that are UTF-8, as std has every path
abbrev pub IsText : List ℕ → Type 0
IsText = IsUtf8

-- the system's number for a name that is no text
abbrev pub SaysNoText : Error → Type 0
SaysNoText e = raw_os_error e ≡ Some (pos 84)

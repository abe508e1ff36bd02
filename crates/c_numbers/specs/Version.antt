-- The version of the C interface. Each change of a signature, a size or a place in include/rahmisve.h raises it, each new or changed number
-- of an answer, a verdict or a find, and each change of what a block's row allows or its records hold, there and here. 2: four records in
-- block 2. 3: answer 18. 4: leap days, and answer 19. 5: which blocks were fill, and answer 20. 6: the Sounder's status,
-- and answers 21 and 22.
-- Assumes nothing.
use Rattle.std.specs.Prelude.{ℕ}

abbrev pub version : ℕ
version = 6

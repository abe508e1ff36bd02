-- What is promised of a time that C keeps as seven numbers.
-- Assumes nothing.
use Rattle.std.specs.Prelude.{◌≡◌, ℕ, List}
use Rattle.tag.specs.Promises.{Bounded}
use Rattle.tag.specs.declared.Tag.{Tag}
use Rattle.c_tags.specs.Times.{tag_from, numbers_of}

-- The numbers of a good tag, by any list, are read as that tag.
abbrev pub TagKept : Type 0
TagKept = (leaps : List ℕ) (t : Tag) → Bounded leaps t → tag_from 0 (numbers_of t) ≡ t

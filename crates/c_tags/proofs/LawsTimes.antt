-- The seven numbers of a tag are read as that tag wherever they fit; those within a tag's bounds do.
-- Assumes nothing.
use Prim.Native.Nat.{ℕ, ◌≤◌}
use mathlib.Core.List.{List}
use mathlib.Core.Path.{◌≡◌, sym}
use native.Mathlib.Omega.{arith}
use Rattle.tag.specs.Promises.{Bounded}
use Rattle.tag.specs.declared.Tag.{Tag}
use Rattle.tag.proofs.LawsBounds.{tests, day_below, second_below}
use Rattle.c_numbers.proofs.LawsNumbers.{within, marked}
use Rattle.c_tags.specs.Times.{tag_from, numbers_of}

-- a tag whose numbers its types hold
pub record Held (t : Tag) : Type 0 where
  pub year : t.year ≤ 65535
  pub day : t.day ≤ 65535
  pub hour : t.hour ≤ 255
  pub minute : t.minute ≤ 255
  pub second : t.second ≤ 255
  pub ms : t.ms ≤ 65535

pub tag_again : (t : Tag) → Held t → tag_from 0 (numbers_of t) ≡ t
tag_again t h = λ i. record {
  year = sym (within _ _ h.year) i;
  day = sym (within _ _ h.day) i;
  hour = sym (within _ _ h.hour) i;
  minute = sym (within _ _ h.minute) i;
  second = sym (within _ _ h.second) i;
  ms = sym (within _ _ h.ms) i;
  flywheel = marked t.flywheel i;
}

pub bounded_held : (leaps : List ℕ) (t : Tag) → Bounded leaps t → Held t
bounded_held leaps t b = record {
  year = omega (arith, b.year);
  day = omega (arith, day_below leaps t (tests leaps t b));
  hour = omega (arith, b.hour);
  minute = omega (arith, b.minute);
  second = omega (arith, second_below b.second);
  ms = omega (arith, b.ms);
}

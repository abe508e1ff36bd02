-- What a report prints: the scope's example, what was found, and the copies that changed, one by one.
-- Assumes nothing.
use Rattle.std.specs.Prelude.{ℕ, ◌+◌, ◌*◌, ◌<◌, ◌≡◌, [], ◌∷◌}
use Rattle.text.specs.Texts.{bytes_of}
use Rattle.report.specs.Texts.{kind_text, changed_text, report_text}

-- The scope's example: a span of 137 bytes, a block whose copies all lay there, and a block of which copies 1 and 3 were others.
abbrev pub PrintsReport : Type 0
PrintsReport =
    report_text (0 ∷ 137 ∷ 8 ∷ 137 ∷ 2772 ∷ 0 ∷ 2909 ∷ 26352 ∷ 5 ∷ []) 2
    ≡ bytes_of "start bytes found changed\n0 137 span -\n137 2772 block -\n2909 26352 block 1,3\nend 2\n"

-- What was found: a block, whichever of its copies changed, or a span.
pub record PrintsKinds : Type 0 where
  pub block : (n : ℕ) → n < 8 → kind_text n ≡ bytes_of "block"
  pub span : kind_text 8 ≡ bytes_of "span"

-- The changed copies: 1, 2 and 4 stand for copies 1, 2 and 3, whatever higher numbers stand beside them.
pub record PrintsChanged : Type 0 where
  pub none : (k : ℕ) → changed_text (k * 8) ≡ bytes_of "-"
  pub first : (k : ℕ) → changed_text (k * 8 + 1) ≡ bytes_of "1"
  pub second : (k : ℕ) → changed_text (k * 8 + 2) ≡ bytes_of "2"
  pub first_two : (k : ℕ) → changed_text (k * 8 + 3) ≡ bytes_of "1,2"
  pub third : (k : ℕ) → changed_text (k * 8 + 4) ≡ bytes_of "3"
  pub outer_two : (k : ℕ) → changed_text (k * 8 + 5) ≡ bytes_of "1,3"
  pub last_two : (k : ℕ) → changed_text (k * 8 + 6) ≡ bytes_of "2,3"
  pub all : (k : ℕ) → changed_text (k * 8 + 7) ≡ bytes_of "1,2,3"

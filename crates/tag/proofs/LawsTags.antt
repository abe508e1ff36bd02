-- What eight bytes say, byte by byte as the code takes them; and what a reading answers, by whether list and tag are good.
-- Assumes nothing.
use mathlib.Core.Path.{◌≡◌, refl, sym, ap, ◌∙◌}
use Prim.Native.Nat.{ℕ, zero, suc, ◌+◌, ◌*◌, ◌/◌, ◌%◌}
use native.Mathlib.Omega.{arith}
use mathlib.Core.Bool.{Bool, true, false, ◌&&◌}
use mathlib.Core.List.{List, [], ◌∷◌}
use lib.Dec.{eqb, leb}
use Rattle.std.specs.Prelude.{Result, Ok, Err, is_ok}
use lib.ListN.{length, get_or}
use borrow.Author.Tests.{eq-eqb, ne_eqb}
use Rattle.ground.specs.Choice.{pick}
use Rattle.ground.specs.declared.Refusal.{Refusal}
use Rattle.ground.specs.Refusals.{number_of}
use Rattle.ground.proofs.LawsRefusals.{never_zero}
use Rattle.tag.specs.Digits.{digits_of, paired, decimal, value_of, spelt}
use Rattle.calendar.specs.Leaps.{good_list}
use Rattle.tag.specs.Tags.{tag_digits, tag_of, bytes_of, in_bounds, good_tag, TagRead, TagBytes, told_tag, read_by, read_tag, zero_tag}
use Rattle.tag.specs.declared.Tag.{Tag}
use Rattle.ground.proofs.LawsTests.{second, and_true, and_assoc}

abbrev pub tag : ℕ → ℕ → ℕ → ℕ → ℕ → ℕ → Bool → Tag
tag y d h m s k f = record { year = y; day = d; hour = h; minute = m; second = s; ms = k; flywheel = f }

abbrev pub read : ℕ → Tag → TagRead
read n t = record { number = n; tag = t }

abbrev pub written : ℕ → List ℕ → TagBytes
written n s = record { number = n; bytes = s }

-- A list is its elements, one by one.
abbrev spread : ℕ → (ℕ → ℕ) → List ℕ
spread zero f = []
spread (suc n) f = f 0 ∷ spread n (λ i. f (suc i))

spread_all : (s : List ℕ) → spread (length s) (λ i. get_or s i 0) ≡ s
spread_all [] = refl
spread_all (x ∷ s) = ap (λ (l : List ℕ). x ∷ l) (spread_all s)

eight : (s : List ℕ) → length s ≡ 8 → spread 8 (λ i. get_or s i 0) ≡ s
eight s e = ap (λ (n : ℕ). spread n (λ i. get_or s i 0)) (sym e) ∙ spread_all s

-- The two digits of a byte as a number.
abbrev two : ℕ → ℕ
two b = b / 16 * 10 + b % 16

module _ (a b c d e f g h : ℕ) where
  at_year : two a * 100 + two b ≡ value_of (a / 16 ∷ a % 16 ∷ b / 16 ∷ b % 16 ∷ [])
  unfolding value_of
  at_year = omega arith

  at_day : two (c % 128) * 10 + d / 16 ≡ value_of (c % 128 / 16 ∷ c % 128 % 16 ∷ d / 16 ∷ [])
  unfolding value_of
  at_day = omega arith

  at_ms : g % 16 * 100 + two h ≡ value_of (g % 16 ∷ h / 16 ∷ h % 16 ∷ [])
  unfolding value_of
  at_ms = omega arith

  across : (x y : ℕ) → x % 16 * 10 + y / 16 ≡ value_of (x % 16 ∷ y / 16 ∷ [])
  unfolding value_of
  across x y = omega arith

  pub says : {year third day hour minute second ms : ℕ} → year ≡ two a * 100 + two b → third ≡ c % 128 → day ≡ two third * 10 + d / 16 → hour ≡ d % 16 * 10 + e / 16
      → minute ≡ e % 16 * 10 + f / 16 → second ≡ f % 16 * 10 + g / 16 → ms ≡ g % 16 * 100 + two h
      → tag year day hour minute second ms (leb 128 c) ≡ tag_of (a ∷ b ∷ c ∷ d ∷ e ∷ f ∷ g ∷ h ∷ [])
  unfolding tag_of digits_of
  says p q r s t u v = λ i.
      tag ((p ∙ at_year) i) ((r ∙ ap (λ (n : ℕ). two n * 10 + d / 16) q ∙ at_day) i) ((s ∙ across d e) i) ((t ∙ across e f) i) ((u ∙ across f g) i) ((v ∙ at_ms) i) (leb 128 c)

pub says_all : (s : List ℕ) → length s ≡ 8 → {year third day hour minute second ms : ℕ}
    → year ≡ two (get_or s 0 0) * 100 + two (get_or s 1 0) → third ≡ get_or s 2 0 % 128 → day ≡ two third * 10 + get_or s 3 0 / 16
    → hour ≡ get_or s 3 0 % 16 * 10 + get_or s 4 0 / 16 → minute ≡ get_or s 4 0 % 16 * 10 + get_or s 5 0 / 16
    → second ≡ get_or s 5 0 % 16 * 10 + get_or s 6 0 / 16 → ms ≡ get_or s 6 0 % 16 * 100 + two (get_or s 7 0)
    → tag year day hour minute second ms (leb 128 (get_or s 2 0)) ≡ tag_of s
says_all s e p q r t u v w =
    says (get_or s 0 0) (get_or s 1 0) (get_or s 2 0) (get_or s 3 0) (get_or s 4 0) (get_or s 5 0) (get_or s 6 0) (get_or s 7 0) p q r t u v w
    ∙ ap tag_of (eight s e)

-- Digit by digit, a test of bytes is one of digits.
abbrev pub bcd : ℕ → Bool
bcd b = leb (b / 16) 9 && leb (b % 16) 9

next : (b : ℕ) (bs : List ℕ) {r : Bool} → r ≡ decimal (digits_of bs) → bcd b && r ≡ decimal (digits_of (b ∷ bs))
unfolding decimal digits_of
next b bs {r} e = and_assoc (leb (b / 16) 9) (leb (b % 16) 9) r ∙ ap (λ (z : Bool). leb (b / 16) 9 && (leb (b % 16) 9 && z)) e

last : (b : ℕ) → bcd b ≡ decimal (digits_of (b ∷ []))
unfolding decimal digits_of
last b = ap (λ (z : Bool). leb (b / 16) 9 && z) (and_true (leb (b % 16) 9))

all_bcd : (a b c d e f g h : ℕ)
    → bcd a && (bcd b && (bcd (c % 128) && (bcd d && (bcd e && (bcd f && (bcd g && bcd h)))))) ≡ decimal (tag_digits (a ∷ b ∷ c ∷ d ∷ e ∷ f ∷ g ∷ h ∷ []))
all_bcd a b c d e f g h = next a _ (next b _ (next (c % 128) _ (next d _ (next e _ (next f _ (next g _ (last h)))))))

abbrev tested : List ℕ → ℕ → Bool
tested s i = bcd (get_or s i 0)

pub bcd_all : (s : List ℕ) → length s ≡ 8
    → tested s 0 && (tested s 1 && (bcd (get_or s 2 0 % 128) && (tested s 3 && (tested s 4 && (tested s 5 && (tested s 6 && tested s 7)))))) ≡ decimal (tag_digits s)
bcd_all s e =
    all_bcd (get_or s 0 0) (get_or s 1 0) (get_or s 2 0) (get_or s 3 0) (get_or s 4 0) (get_or s 5 0) (get_or s 6 0) (get_or s 7 0)
    ∙ ap (λ (l : List ℕ). decimal (tag_digits l)) (eight s e)

-- The eight bytes of a tag, as the code makes them.
abbrev pack : ℕ → ℕ
pack n = n / 10 % 10 * 16 + n % 10

abbrev join : ℕ → ℕ → ℕ
join a b = a % 10 * 16 + b / 10 % 10

pub spells_out : (t : Tag)
    → pack (t.year / 100) ∷ pack t.year ∷ (pick t.flywheel 128 0 + pack (t.day / 10)) ∷ join t.day t.hour ∷ join t.hour t.minute
    ∷ join t.minute t.second ∷ join t.second (t.ms / 10) ∷ pack t.ms ∷ []
    ≡ bytes_of t
unfolding bytes_of paired spelt
spells_out t = λ i.
    high t.year i ∷ low t.year i ∷ (pick t.flywheel 128 0 + tens t.day i) ∷ over t.day t.hour i ∷ over t.hour t.minute i
    ∷ over t.minute t.second i ∷ hundreds t.second t.ms i ∷ low t.ms i ∷ []
  where
    high : (n : ℕ) → pack (n / 100) ≡ n / 1000 % 10 * 16 + n / 100 % 10
    high n = omega arith

    low : (n : ℕ) → pack n ≡ n / 10 % 10 * 16 + n / 1 % 10
    low n = omega arith

    tens : (n : ℕ) → pack (n / 10) ≡ n / 100 % 10 * 16 + n / 10 % 10
    tens n = omega arith

    over : (m n : ℕ) → join m n ≡ m / 1 % 10 * 16 + n / 10 % 10
    over m n = omega arith

    hundreds : (m n : ℕ) → join m (n / 10) ≡ m / 1 % 10 * 16 + n / 100 % 10
    hundreds m n = omega arith

-- Answers, by whether the tag is good.
module _ (leaps s : List ℕ) where
  pub not_eight : (length s ≡ 8 → ⊥) → good_tag leaps s ≡ false
  unfolding good_tag
  not_eight h = ap (λ (l : Bool). l && (decimal (tag_digits s) && in_bounds leaps (tag_of s))) (ne_eqb (length s) 8 h)

  pub good_bounds : good_tag leaps s ≡ true → in_bounds leaps (tag_of s) ≡ true
  unfolding good_tag
  good_bounds h = second (decimal (tag_digits s)) _ (second (eqb (length s) 8) _ h)

  by_tag : (b : Bool) → good_tag leaps s ≡ b → read_by leaps s ≡ pick b (read 0 (tag_of s)) (read 12 zero_tag)
  unfolding read_by
  by_tag b h = ap (λ (b : Bool). pick b (read 0 (tag_of s)) (read 12 zero_tag)) h

  pub reads : good_tag leaps s ≡ true → read_by leaps s ≡ read 0 (tag_of s)
  reads h = by_tag true h

  pub refuses : good_tag leaps s ≡ false → read_by leaps s ≡ read 12 zero_tag
  refuses h = by_tag false h

  -- An answer of 0 says that the tag is good.
  pub accepted_by : eqb (read_by leaps s).number 0 ≡ good_tag leaps s
  accepted_by = by (good_tag leaps s) refl
    where
      by : (b : Bool) → good_tag leaps s ≡ b → eqb (read_by leaps s).number 0 ≡ b
      by true h = ap (λ (r : TagRead). eqb r.number 0) (reads h)
      by false h = ap (λ (r : TagRead). eqb r.number 0) (refuses h)

  -- What an answer says of the tag.
  pub was_good : (t : Tag) → told_tag (Ok t) ≡ read_by leaps s → (good_tag leaps s ≡ true) × (t ≡ tag_of s)
  was_good t e = by (good_tag leaps s) refl
    where
      by : (b : Bool) → good_tag leaps s ≡ b → (b ≡ true) × (t ≡ tag_of s)
      by true h = (refl, ap (λ (r : TagRead). r.tag) (e ∙ reads h))
      by false h = absurd (let z : ◌≡◌ {A = ℕ} 0 12 = ap (λ (r : TagRead). r.number) (e ∙ refuses h) in omega arith)

  pub was_bad : (x : Refusal) → told_tag (Err x) ≡ read_by leaps s → (good_tag leaps s ≡ false) × (number_of x ≡ 12)
  was_bad x e = by (good_tag leaps s) refl
    where
      by : (b : Bool) → good_tag leaps s ≡ b → (b ≡ false) × (number_of x ≡ 12)
      by true h = absurd (never_zero x (ap (λ (r : TagRead). r.number) (e ∙ reads h)))
      by false h = (refl, ap (λ (r : TagRead). r.number) (e ∙ refuses h))

  pub judged : (r : Result Tag Refusal) → told_tag r ≡ read_by leaps s → is_ok r ≡ good_tag leaps s
  judged (Ok t) e = sym (was_good t e).0
  judged (Err x) e = sym (was_bad x e).0

  -- By a list that is one the tag decides; where it is none, nothing else does.
  pub by_list : good_list leaps ≡ true → read_tag leaps s ≡ read_by leaps s
  unfolding read_tag
  by_list h = ap (λ (b : Bool). pick b (read_by leaps s) (read 19 zero_tag)) h

  pub no_list : good_list leaps ≡ false → read_tag leaps s ≡ read 19 zero_tag
  unfolding read_tag
  no_list h = ap (λ (b : Bool). pick b (read_by leaps s) (read 19 zero_tag)) h

  -- Of eight bytes, by what the tests found.
  module _ {a b : Bool} {t : Tag} (l : length s ≡ 8) (p : a ≡ decimal (tag_digits s)) (q : t ≡ tag_of s) (e : b ≡ in_bounds leaps t) where
    found : a && b ≡ good_tag leaps s
    unfolding good_tag
    found = λ i. sym (eq-eqb (length s) 8 l) i && (p i && (e ∙ ap (in_bounds leaps) q) i)

    pub takes_eight : a && b ≡ true → read 0 t ≡ read_by leaps s
    takes_eight h = ap (λ (u : Tag). read 0 u) q ∙ sym (reads (sym found ∙ h))

    pub refuses_eight : a && b ≡ false → read 12 zero_tag ≡ read_by leaps s
    refuses_eight h = sym (refuses (sym found ∙ h))

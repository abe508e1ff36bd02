-- No refusal has the number 0, no two have the same, and an answer is known by what is told of it.
-- Assumes nothing.
use Rattle.std.specs.Prelude.{ℕ, ◌-◌, ◌≡◌, [], ◌∷◌, get_or, Result, Ok, Err, IsErrAnd}
use Rattle.std.proofs.Common.{refl, sym, ap, ◌∙◌, arith}
use Rattle.ground.specs.declared.Refusal.{Refusal}
use Rattle.ground.specs.declared.Refusal.TheVariants.{NoHeader, NoCopyPasses, CopiesDiffer, UnknownBlock, UnknownVersion, WrongSize, WrongCount, WrongLength, SmallRoom, CheckDisagrees, FillNotZero, BadTag, NoRecord, LargeWord, OtherField, LongLimit, OffBoundary, NoBlock, BadLeapDays, BadFill, SpareBit, OutOfRange}
use Rattle.ground.specs.Refusals.{number_of}

abbrev pub refusal_of : ℕ → Refusal
refusal_of n =
    get_or (NoHeader ∷ NoCopyPasses ∷ CopiesDiffer ∷ UnknownBlock ∷ UnknownVersion ∷ WrongSize ∷ WrongCount ∷ WrongLength ∷ SmallRoom
    ∷ CheckDisagrees ∷ FillNotZero ∷ BadTag ∷ NoRecord ∷ LargeWord ∷ OtherField ∷ LongLimit ∷ OffBoundary ∷ NoBlock ∷ BadLeapDays
    ∷ BadFill ∷ SpareBit ∷ OutOfRange ∷ []) (n - 1) NoHeader

pub refusal_kept : (r : Refusal) → refusal_of (number_of r) ≡ r
refusal_kept NoHeader = refl
refusal_kept NoCopyPasses = refl
refusal_kept CopiesDiffer = refl
refusal_kept UnknownBlock = refl
refusal_kept UnknownVersion = refl
refusal_kept WrongSize = refl
refusal_kept WrongCount = refl
refusal_kept WrongLength = refl
refusal_kept SmallRoom = refl
refusal_kept CheckDisagrees = refl
refusal_kept FillNotZero = refl
refusal_kept BadTag = refl
refusal_kept NoRecord = refl
refusal_kept LargeWord = refl
refusal_kept OtherField = refl
refusal_kept LongLimit = refl
refusal_kept OffBoundary = refl
refusal_kept NoBlock = refl
refusal_kept BadLeapDays = refl
refusal_kept BadFill = refl
refusal_kept SpareBit = refl
refusal_kept OutOfRange = refl

pub never_zero : (r : Refusal) → number_of r ≡ 0 → ⊥
never_zero NoHeader e = omega arith
never_zero NoCopyPasses e = omega arith
never_zero CopiesDiffer e = omega arith
never_zero UnknownBlock e = omega arith
never_zero UnknownVersion e = omega arith
never_zero WrongSize e = omega arith
never_zero WrongCount e = omega arith
never_zero WrongLength e = omega arith
never_zero SmallRoom e = omega arith
never_zero CheckDisagrees e = omega arith
never_zero FillNotZero e = omega arith
never_zero BadTag e = omega arith
never_zero NoRecord e = omega arith
never_zero LargeWord e = omega arith
never_zero OtherField e = omega arith
never_zero LongLimit e = omega arith
never_zero OffBoundary e = omega arith
never_zero NoBlock e = omega arith
never_zero BadLeapDays e = omega arith
never_zero BadFill e = omega arith
never_zero SpareBit e = omega arith
never_zero OutOfRange e = omega arith

-- what the exit of a `?` returns
pub passed_on : {T : Type 0} {e : Refusal} (r : Result T Refusal) → IsErrAnd r (λ y. y ≡ e) → r ≡ Err e
passed_on (Ok x) h = absurd h
passed_on (Err y) h = ap Err h

-- Two answers of which the same is told are equal: the number tells a refusal, and `ok` gives back what is no refusal.
module _ {T A : Type 0} (told : Result T Refusal → A) (number : A → ℕ) (ok : A → T)
    (zero : (v : T) → number (told (Ok v)) ≡ 0) (own : (r : Refusal) → number (told (Err r)) ≡ number_of r) (back : (v : T) → ok (told (Ok v)) ≡ v) where
  pub told_once : {x y : Result T Refusal} {m : A} → told x ≡ m → told y ≡ m → x ≡ y
  told_once {x} {y} p q = go x y (p ∙ sym q)
    where
      go : (x y : Result T Refusal) → told x ≡ told y → x ≡ y
      go (Ok v) (Ok w) e = ap Ok (sym (back v) ∙ ap ok e ∙ back w)
      go (Ok v) (Err r) e = absurd (never_zero r (sym (own r) ∙ sym (ap number e) ∙ zero v))
      go (Err r) (Ok v) e = absurd (never_zero r (sym (own r) ∙ ap number e ∙ zero v))
      go (Err r) (Err s) e = ap Err (sym (refusal_kept r) ∙ ap refusal_of (sym (own r) ∙ ap number e ∙ own s) ∙ refusal_kept s)

-- `test` gives the first ground that holds: each return knows that the tests before it did not. The length is tested first, so that the
-- check word and the fill are where they are looked for.
-- Assumes nothing.
use Prim.Native.Nat.{ℕ, ◌+◌, ◌-◌, ◌%◌, ◌≤◌}
use mathlib.Core.Path.{◌≡◌, refl, ap, ◌∙◌}
use mathlib.Core.Bool.{Bool, not}
use native.Mathlib.Omega.{arith}
use mathlib.Core.List.{List, [], ◌∷◌}
use lib.ListN.{length, take, drop, length-drop}
use lib.Seq.{take_all}
use borrow.Author.Tests.{eq-eqb, le-ltb}
use Rattle.ground.specs.Grounds.{◌when◌, first_of}
use Rattle.ground.proofs.LawsChoice.{yes, no}
use Rattle.bits.specs.Fields.{fill_of, all_zero}
use Rattle.check_rule.specs.Check.{passes}
use Rattle.copies.specs.Copies.{copies_length}
use Rattle.block.specs.Layout.{block_length, information_field}
use Rattle.block.specs.Grounds.{check_disagrees, fill_not_zero, field_grounds}
use Rattle.block.proofs.field.test.Goals as goal

module _ (size words bytes : ℕ) (block : List ℕ) (room : ℕ) (long : length block ≡ block_length bytes) where
  -- where the length, the boundary and the room refuse nothing, the check and then the fill decide
  behind : {n : ℕ} → (copies_length + bytes) % 2 ≡ 0 → words ≤ room
      → n ≡ first_of ((10 when check_disagrees block) ∷ (11 when fill_not_zero size words (information_field bytes block)) ∷ [])
      → n ≡ first_of (field_grounds size words bytes block room)
  behind even roomy e =
      no _ refl (ap not (eq-eqb _ _ long)) (no _ refl (ap not (eq-eqb _ _ even)) (no _ refl (le-ltb room words roomy) e))

  -- the check is asked of all that stands behind the header copies
  checked : {t : Bool} → t ≡ passes (take (length block - copies_length) (drop copies_length block)) → not t ≡ check_disagrees block
  checked e = ap not (e ∙ ap passes (take_all (length block - copies_length) (drop copies_length block) (omega (arith, length-drop copies_length block))))

  -- the fill is that of the field, which ends before the check word
  filled : {t : Bool} → t ≡ all_zero (fill_of size words (take (copies_length + bytes - copies_length) (drop copies_length block)))
      → not t ≡ fill_not_zero size words (information_field bytes block)
  filled e =
      let k : copies_length + bytes - copies_length ≡ bytes = omega arith in
      ap not (e ∙ ap (λ (n : ℕ). all_zero (fill_of size words (take n (drop copies_length block)))) k)

pub returns-then-not-passes : goal.returns-then-not-passes
returns-then-not-passes c =
    let p = c.args.plan in
    let l = c.if-block-end.false in
    behind p.size p.words p.bytes c.args.block.now c.args.room l c.if-end-ne0.false c.if-room-plan.false
    (yes _ (checked p.size p.words p.bytes c.args.block.now c.args.room l c.passes.ensures) (ap not c.if-not-passes.true) refl)

pub returns-then-not-fill_is_zero : goal.returns-then-not-fill_is_zero
returns-then-not-fill_is_zero c =
    let p = c.args.plan in
    let l = c.if-block-end.false in
    behind p.size p.words p.bytes c.args.block.now c.args.room l c.if-end-ne0.false c.if-room-plan.false
    (no _ (checked p.size p.words p.bytes c.args.block.now c.args.room l c.passes.ensures) (ap not c.if-not-passes.false)
    (yes _ (filled p.size p.words p.bytes c.args.block.now c.args.room l c.fill_is_zero.ensures) (ap not c.if-not-fill_is_zero.true) refl))

pub returns : goal.returns
returns c =
    let p = c.args.plan in
    let l = c.if-block-end.false in
    behind p.size p.words p.bytes c.args.block.now c.args.room l c.if-end-ne0.false c.if-room-plan.false
    (no _ (checked p.size p.words p.bytes c.args.block.now c.args.room l c.passes.ensures) (ap not c.if-not-passes.false)
    (no _ (filled p.size p.words p.bytes c.args.block.now c.args.room l c.fill_is_zero.ensures) (ap not c.if-not-fill_is_zero.false) refl))

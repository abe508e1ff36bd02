-- The statements on fill blocks are kept: the printed set block by block, the rest by the promises of the watch.
-- Assumes nothing.
use Prim.Native.Nat.{ℕ, zero, suc, ◌/◌, ◌%◌, ◌^◌, ◌<◌}
use mathlib.Core.Path.{◌≡◌, refl, sym, ◌∙◌, subst}
use mathlib.Core.Logic.{◌⊎◌, ◌↔◌, inl, inr}
use native.Mathlib.Omega.{arith}
use lib.Dec.{lit<}
use lib.Count.{ones}
use Rattle.watch_bounds.specs.Sets.{Has}
use Rattle.watch_bounds.proofs.LawsSets.{none_in_empty, below_all, only, same_number}
use Rattle.watch.proofs.LawsLists.{how_many}
use Rattle.watch.proofs.KeepsFilled.{one_fill}
use Rattle.watch.proofs.KeepsHanded.{any_fills}
use Rattle.scope.specs.FillBlocks.{Sets, FillBlocks}

abbrev Printed : ℕ → Type 0
Printed b = (b ≡ 2) ⊎ ((b ≡ 5) ⊎ (b ≡ 10))

-- a bit of 1060, by the block's number
bit : (b r : ℕ) → 1060 / 2 ^ b % 2 ≡ r → Has 1060 b → (r ≡ 1)
bit b r e h = sym e ∙ h

is_printed : (b : ℕ) → b < 11 → Has 1060 b → Printed b
is_printed zero l h = absurd (omega (arith, bit 0 0 refl h))
is_printed (suc zero) l h = absurd (omega (arith, bit 1 0 refl h))
is_printed (suc (suc zero)) l h = inl refl
is_printed (suc (suc (suc zero))) l h = absurd (omega (arith, bit 3 0 refl h))
is_printed (suc (suc (suc (suc zero)))) l h = absurd (omega (arith, bit 4 0 refl h))
is_printed (suc (suc (suc (suc (suc zero))))) l h = inr (inl refl)
is_printed (suc (suc (suc (suc (suc (suc zero)))))) l h = absurd (omega (arith, bit 6 0 refl h))
is_printed (suc (suc (suc (suc (suc (suc (suc zero))))))) l h = absurd (omega (arith, bit 7 0 refl h))
is_printed (suc (suc (suc (suc (suc (suc (suc (suc zero)))))))) l h = absurd (omega (arith, bit 8 0 refl h))
is_printed (suc (suc (suc (suc (suc (suc (suc (suc (suc zero))))))))) l h = absurd (omega (arith, bit 9 0 refl h))
is_printed (suc (suc (suc (suc (suc (suc (suc (suc (suc (suc b)))))))))) l h = inr (inr (omega arith))

printed_has : (b : ℕ) → Printed b → Has 1060 b
printed_has b (inl e) = subst (Has 1060) (sym e) refl
printed_has b (inr (inl e)) = subst (Has 1060) (sym e) refl
printed_has b (inr (inr e)) = subst (Has 1060) (sym e) refl

printed : (b : ℕ) → Has 1060 b ↔ Printed b
printed b = (λ h. is_printed b (below_all 1060 11 b (lit< tt) h) h, printed_has b)

sets : Sets
unfolding ones
sets = record { one = only; same = same_number; number = refl; blocks = printed; many = how_many 1060; none = none_in_empty }

pub fill_blocks : FillBlocks
fill_blocks = record { sets = sets; one = one_fill; scans = any_fills }

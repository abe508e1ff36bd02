-- `putting::groups::joined` meets its contract: each word comes behind those before it, and nothing is shifted out.
-- Assumes nothing.
use mathlib.Core.Path.{sym, ap, ◌∙◌}
use mathlib.Core.List.{List, ◌++◌}
use Prim.Native.Nat.{ℕ, ◌+◌, ◌-◌, ◌*◌, ◌^◌, ◌<◌}
use native.Mathlib.Omega.{arith}
use lib.ListN.{get_or, replicate}
use lib.Pow.{pow_pos, pow_mono}
use Rattle.bits.specs.Bits.{spell, Below}
use Rattle.bits.proofs.LawsBelow.{below_at}
use Rattle.bits.proofs.LawsElements.{part_four}
use Rattle.bits.proofs.LawsFill.{fit_below}
use Rattle.putting.proofs.LawsFours.{two_lt, three_lt, four_lt, joined_bits}
use Rattle.putting.proofs.groups.joined.Goals as goal

-- every word has its size
word : (words : List ℕ) (size : ℕ) → Below (2 ^ size) words → (k : ℕ) → get_or words k 0 < 2 ^ size
word words size below k = below_at (2 ^ size) words (pow_pos size) below k

pub overflow_cast-two : goal.overflow_cast-two
overflow_cast-two c = omega (arith, c.type_inv.words c.args.i)

pub overflow_cast-two-2 : goal.overflow_cast-two-2
overflow_cast-two-2 c = omega (arith, c.type_inv.words (c.args.i + 1))

pub overflow_add-two-2 : goal.overflow_add-two-2
overflow_add-two-2 c =
    let i = c.args.i in
    let w = word c.args.fitting.words.now c.args.fitting.size (fit_below _ _ c.args.fitting.fits) in
    let h = c.args.fitting.le_size.1 in
    omega (
      arith,
      two_lt c.args.fitting.size h (w i) (w (i + 1)) (w (i + 2)) (w (i + 3)),
      pow_mono {i = c.args.fitting.size + c.args.fitting.size} {j = 32}
          (omega arith),
    )

pub overflow_cast-three : goal.overflow_cast-three
overflow_cast-three c = omega (arith, c.type_inv.words (c.args.i + 2))

pub overflow_add-three-2 : goal.overflow_add-three-2
overflow_add-three-2 c =
    let i = c.args.i in
    let w = word c.args.fitting.words.now c.args.fitting.size (fit_below _ _ c.args.fitting.fits) in
    let h = c.args.fitting.le_size.1 in
    omega (
      arith,
      three_lt c.args.fitting.size h (w i) (w (i + 1)) (w (i + 2)) (w (i + 3)),
      pow_mono {i = c.args.fitting.size + c.args.fitting.size + c.args.fitting.size} {j = 48} (omega arith),
    )

pub overflow_cast-four : goal.overflow_cast-four
overflow_cast-four c =
    let w = word c.args.fitting.words.now c.args.fitting.size (fit_below _ _ c.args.fitting.fits) in
    omega (arith, w (c.args.i + 3), pow_mono {i = c.args.fitting.size} {j = 16} c.args.fitting.le_size.1)

pub overflow_add-four-2 : goal.overflow_add-four-2
overflow_add-four-2 c =
    let i = c.args.i in
    let w = word c.args.fitting.words.now c.args.fitting.size (fit_below _ _ c.args.fitting.fits) in
    let h = c.args.fitting.le_size.1 in
    omega (
      arith,
      four_lt c.args.fitting.size h (w i) (w (i + 1)) (w (i + 2)) (w (i + 3)),
      pow_mono {i = c.args.fitting.size + c.args.fitting.size + c.args.fitting.size + c.args.fitting.size} {j = 64} (omega arith),
    )

pub returns : goal.returns
returns c =
    let i = c.args.i in
    let w = word c.args.fitting.words.now c.args.fitting.size (fit_below _ _ c.args.fitting.fits) in
    joined_bits c.args.fitting.size c.args.fitting.le_size.1 (w i) (w (i + 1)) (w (i + 2)) (w (i + 3))
    ∙ ap (λ (l : List ℕ). spell c.args.fitting.size l ++ replicate (64 - 4 * c.args.fitting.size) 0)
    (sym (part_four c.args.fitting.words.now i c.requires.i_in_bounds))

-- `check_window::check_by_turn` meets its contract: the window stands for the register behind the turns so far, then behind the fours.
-- Assumes nothing.
use mathlib.Core.Path.{◌≡◌, refl, ap, ap₂, ◌∙◌, subst, subst⁻¹}
use mathlib.Core.List.{List, [], ◌∷◌}
use Prim.Native.Nat.{ℕ, ◌+◌, ◌*◌, ◌/◌, ◌<◌, ◌≤◌}
use native.Mathlib.Omega.{arith}
use lib.ListN.{length, get_or, take, drop}
use Rattle.std.proofs.lemmas.List.{drop-drop, length-take, length-drop}
use Rattle.check_eight.specs.Eight.{big, check_from}
use Rattle.check_eight.proofs.LawsEight.{chunk_at, checks}
use Rattle.bits.proofs.LawsBelow.{below_all}
use Rattle.check_window.specs.Turn.{mirrors, chunks}
use Rattle.check_window.proofs.LawsTurn.{Holds, begins, goes_on, cons, chunks_in, word_at}
use Rattle.check_window.proofs.check_by_turn.Goals as goal

pub returns-then-message-lt-LEAST : goal.returns-then-message-lt-LEAST
returns-then-message-lt-LEAST c = c.check_by_eight.ensures

pub loop-bytes-init : goal.loop-bytes-init
loop-bytes-init c = begins c.args.message.now

pub loop-bytes-preserved : goal.loop-bytes-preserved
loop-bytes-preserved c =
    let l = c.loop-bytes in
    let k = l.bytes-index in
    let s = c.args.message.now in
    let more = c.as_chunks.ensures.front_len in
    let h : k * 128 + 128 ≤ length s = omega (arith, more, c.loop-bytes-test.true) in
    let e : k * 128 + 128 ≡ (k + 1) * 128 = omega arith in
    let turn : get_or c.as_chunks.result.0.now k [] ≡ take 128 (drop (k * 128) s) =
    ap (λ (t : List (List ℕ)). get_or t k []) c.as_chunks.ensures.front ∙ chunk_at 128 (length s / 128) s k (omega (arith, more, c.loop-bytes-test.true)) in
    let words : mirrors c.block.result ≡ chunks s (k * 128) 0 16 =
    c.block.ensures ∙ ap (λ (p : List ℕ). chunks p 0 0 16) turn ∙ chunks_in 128 s (k * 128) 0 16 (omega arith) in
    subst (λ (n : ℕ). Holds s n c.turn-next.result) e
    (subst⁻¹ (Holds s (k * 128 + 128)) c.turn-next.ensures
    (goes_on 16 s (k * 128) l.w c.block.result (below_all 256 s (λ i. (c.type_inv.message i).fits)) h l.invariant words))

pub loop-bytes-2-preserved : goal.loop-bytes-2-preserved
loop-bytes-2-preserved c =
    let l = c.loop-bytes-2 in
    let k = l.bytes-index in
    let s = c.args.message.now in
    let n = length s / 128 * 128 in
    let i = n + k * 32 in
    let behind = c.as_chunks.result.1.now in
    let more = c.as_chunks-2.ensures.front_len in
    let left = c.as_chunks.ensures.back_len in
    let h : i + 32 ≤ length s = omega (arith, more, left, c.loop-bytes-2-test.true) in
    let e : i + 32 ≡ n + (k + 1) * 32 = omega arith in
    let p = get_or c.as_chunks-2.result.0.now k [] in
    let four : p ≡ take 32 (drop i s) =
    ap (λ (t : List (List ℕ)). get_or t k []) c.as_chunks-2.ensures.front
    ∙ chunk_at 32 (length behind / 32) behind k (omega (arith, more, c.loop-bytes-2-test.true))
    ∙ ap (λ (t : List ℕ). take 32 (drop (k * 32) t)) c.as_chunks.ensures.back
    ∙ ap (take 32) (drop-drop (k * 32) n s) in
    let long : length p ≡ 32 = omega (arith, ap length four, length-take 32 (drop i s), length-drop i s, h) in
    let ws = c.as_chunks-in-loop-bytes-2.result.0.now in
    let at : (j : ℕ) → j < 4 → big (get_or ws j []) ≡ big (take 8 (drop (j * 8) p)) = λ j b. word_at p ws j c.as_chunks-in-loop-bytes-2.ensures.front (omega (arith, long, b)) in
    let d = c.number_of.result ∷ c.number_of-in-loop-bytes-2.result ∷ c.number_of-in-loop-bytes-2-2.result ∷ c.number_of-in-loop-bytes-2-3.result ∷ [] in
    let own : mirrors d ≡ chunks p 0 0 4 =
    cons (c.number_of.ensures ∙ at 0 (omega arith)) (cons (c.number_of-in-loop-bytes-2.ensures ∙ at 1 (omega arith))
    (cons (c.number_of-in-loop-bytes-2-2.ensures ∙ at 2 (omega arith)) (cons (c.number_of-in-loop-bytes-2-3.ensures ∙ at 3 (omega arith)) refl))) in
    let words : mirrors d ≡ chunks s i 0 4 = own ∙ ap (λ (t : List ℕ). chunks t 0 0 4) four ∙ chunks_in 32 s i 0 4 (omega arith) in
    subst (λ (m : ℕ). Holds s m c.turn4-next.result) e
    (subst⁻¹ (Holds s (i + 32)) c.turn4-next.ensures
    (goes_on 4 s i l.w d (below_all 256 s (λ j. (c.type_inv.message j).fits)) h l.invariant words))

pub returns : goal.returns
returns c =
    let l = c.loop-bytes-2 in
    let s = c.args.message.now in
    let n = length s / 128 * 128 in
    let m = length c.as_chunks.result.1.now / 32 * 32 in
    let e : n + l.bytes-index * 32 ≡ n + m = omega (arith, c.as_chunks-2.ensures.front_len, c.loop-bytes-2-test.false, l.auto.bytes-index-end) in
    c.check_from.ensures
    ∙ ap₂ check_from c.last.ensures (c.as_chunks-2.ensures.back ∙ ap (drop m) c.as_chunks.ensures.back ∙ drop-drop m n s)
    ∙ checks s (n + m) _ (subst (λ (i : ℕ). Holds s i l.w) e l.invariant).1

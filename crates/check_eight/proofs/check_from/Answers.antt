-- `check_eight::check_from` meets its contract: the word stands for the register behind the eights so far, then the register for the bytes
-- behind them.
-- Assumes nothing.
use mathlib.Core.Path.{◌≡◌, sym, ap, ◌∙◌, subst, subst⁻¹}
use mathlib.Core.List.{List, []}
use Prim.Native.Nat.{ℕ, ◌+◌, ◌*◌, ◌/◌, ◌≤◌}
use native.Mathlib.Omega.{arith}
use lib.Bits.{bit_xor}
use lib.ListN.{length, get_or, take, drop}
use lib.Seq.{take_all}
use Rattle.std.specs.Int.{from_be_bytes, w64}
use Rattle.bits.specs.Bits.{bits, spell, sent}
use Rattle.check_rule.specs.Check.{generator, feed}
use Rattle.bits.proofs.LawsBelow.{below_all}
use Rattle.check_rule.proofs.LawsFeed.{feed_next}
use Rattle.check_eight.specs.Eight.{after, big, joined, Stands, check_from}
use Rattle.check_eight.proofs.LawsEight.{begins, from_bytes, chunk_at, stands_next, finishes, checks_behind}
use Rattle.check_eight.proofs.check_from.Goals as goal

pub loop-eight-init : goal.loop-eight-init
loop-eight-init c = begins c.args.rest.now c.args.t (omega arith)

pub loop-eight-preserved : goal.loop-eight-preserved
loop-eight-preserved c =
    let k = c.loop-eight.eight-index in
    let s = c.args.rest.now in
    let a = after 0 64 c.args.t in
    let h : k * 8 + 8 ≤ length s = omega (arith, c.as_chunks.ensures.front_len, c.loop-eight-test.true) in
    let e : k * 8 + 8 ≡ (k + 1) * 8 = omega arith in
    let eight = ap (λ l. get_or l k []) c.as_chunks.ensures.front ∙ chunk_at 8 (length s / 8) s k (omega (arith, c.as_chunks.ensures.front_len, c.loop-eight-test.true)) in
    let number : c.from_be_bytes.result ≡ big (take 8 (drop (k * 8) s)) = c.from_be_bytes.ensures ∙ ap (from_be_bytes w64) eight ∙ from_bytes s (k * 8) h in
    subst (λ (n : ℕ). Stands a s n c.word_behind-w.result) e
    (subst⁻¹ (Stands a s (k * 8 + 8)) (c.word_behind-w.ensures ∙ ap (joined c.loop-eight.w) number)
    (stands_next a s (k * 8) c.loop-eight.w (below_all 256 s (λ i. (c.type_inv.rest i).fits)) h c.loop-eight.invariant))

pub loop-byte-init : goal.loop-byte-init
unfolding spell feed
loop-byte-init c = c.finish-r.ensures ∙ finishes c.loop-eight.w c.loop-eight.invariant.0

pub loop-byte-preserved : goal.loop-byte-preserved
loop-byte-preserved c =
    let l = c.loop-byte in
    let tail = c.as_chunks.result.1.now in
    c.next-r.ensures ∙ ap (λ (r : ℕ). feed generator r (bits 8 (get_or tail l.byte-index 0))) l.invariant
    ∙ sym (feed_next generator (after 0 64 c.loop-eight.w) tail l.byte-index c.loop-byte-test.true)

pub returns : goal.returns
unfolding check_from
returns c =
    let w = c.loop-eight.w in
    let s = c.args.rest.now in
    let tail = c.as_chunks.result.1.now in
    let n = length s / 8 * 8 in
    let e : c.loop-eight.eight-index * 8 ≡ n = omega (arith, c.as_chunks.ensures.front_len, c.loop-eight-test.false, c.loop-eight.auto.eight-index-end) in
    ap (λ (r : ℕ). bit_xor r 0xFFFF) (c.loop-byte.invariant ∙ ap (λ (x : List ℕ). feed generator (after 0 64 w) (sent x)) (take_all c.loop-byte.byte-index tail c.loop-byte-test.false))
    ∙ ap (check_from w) c.as_chunks.ensures.back
    ∙ checks_behind (after 0 64 c.args.t) s n w (subst (λ (i : ℕ). Stands (after 0 64 c.args.t) s i w) e c.loop-eight.invariant)

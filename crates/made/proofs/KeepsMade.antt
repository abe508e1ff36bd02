-- The test and the fact: a block that a copy makes and that meets the specification has three equal copies that pass, so it is read by that
-- copy's header, which says its length.
-- Assumes nothing.
use Prim.Native.Nat.{ℕ, ◌≤◌}
use mathlib.Core.Path.{◌≡◌, sym, ap, ap₂, ◌∙◌, subst}
use mathlib.Core.Bool.{true}
use mathlib.Core.List.{List, ◌++◌}
use native.Mathlib.Omega.{arith}
use lib.ListN.{length, take, drop, take-append-drop}
use Rattle.bits.specs.Bits.{Below}
use Rattle.bits.proofs.LawsBelow.{below_append, below_take, below_drop}
use Rattle.check_rule.proofs.LawsPasses.{passes_true, true_passes}
use Rattle.row.specs.Promises.{most_words}
use Rattle.row.specs.Field.{field_bytes}
use Rattle.row.proofs.LawsField.{field_least, words_at_most}
use Rattle.copies.specs.Copies.{header_length, copies_length, copy_at}
use Rattle.copies.specs.Agreed.{ThreeEqual}
use Rattle.copies.proofs.LawsAgreed.{copy_long, copy_bytes}
use Rattle.header.specs.Asks.{Asks}
use Rattle.header.proofs.LawsAsks.{asked_block, asked_words}
use Rattle.block.specs.Layout.{block_length}
use Rattle.block.specs.Grounds.{refusal_of}
use Rattle.block.specs.Meets.{Meets}
use Rattle.block.proofs.KeepsReader.{number_is, accepts_exactly}
use Rattle.made.specs.Made.{header_by, length_by, thrice, made, makes}
use Rattle.made.specs.Promises.{MakesBlock, MakesExactly}
use Rattle.made.proofs.LawsMade.{thrice_equal, Makes, made_so, so_made, made_long, made_front, made_behind}

pub made_bytes : (k : ℕ) (rest : List ℕ) → Below 256 rest → Below 256 (made k rest)
unfolding made
made_bytes k rest b =
    let c = copy_at k rest in
    let bc : Below 256 c = copy_bytes rest b k in
    below_append 256 (thrice c) (drop copies_length (take (length_by k rest) rest))
    (below_append 256 c (c ++ c) bc (below_append 256 c c bc bc))
    (below_drop 256 copies_length (take (length_by k rest) rest) (below_take 256 (length_by k rest) rest b))

-- such a block is as long as the copy's header asks, and so it is the one made
module _ (k : ℕ) (rest block : List ℕ) (m : MakesBlock k rest block) where
  block_least : 2772 ≤ length block
  block_least = omega (arith, m.meets.long, field_least m.meets.number m.meets.words)

  equal : ThreeEqual block (copy_at k rest)
  equal =
      subst (λ (b : List ℕ). ThreeEqual b (copy_at k rest)) (sym (ap (λ (t : List ℕ). t ++ drop copies_length block) m.copies) ∙ take-append-drop copies_length block)
      (thrice_equal (copy_at k rest) (drop copies_length block) (copy_long rest (omega (arith, block_least, m.inside)) k m.one))

  asks : Asks (header_by k rest) m.meets.number m.meets.version m.meets.size m.meets.words
  asks =
      let g = m.meets.agreed in
      subst (λ (c : List ℕ). Asks (take header_length c) m.meets.number m.meets.version m.meets.size m.meets.words)
      (sym g.there ∙ equal g.place g.within) m.meets.asks

  block_long : length block ≡ length_by k rest
  block_long = m.meets.long ∙ ap block_length (sym (ap₂ field_bytes (asked_block asks) (asked_words asks)))

  block_is : block ≡ made k rest
  unfolding made
  block_is =
      sym (take-append-drop copies_length block)
      ∙ ap₂ (λ (a b : List ℕ). a ++ b) m.copies (m.behind ∙ ap (λ (n : ℕ). drop copies_length (take n rest)) block_long)

  made_accepted : Below 256 rest → refusal_of (made k rest) most_words ≡ 0
  made_accepted b =
      sym (number_is (made k rest) most_words)
      ∙ accepts_exactly.accepts (made k rest) most_words (made_bytes k rest b) (subst Meets block_is m.meets)
      (words_at_most _ _ _ _ (subst Meets block_is m.meets).asks.suits)

-- what the test says is so
module _ (k : ℕ) (rest : List ℕ) (b : Below 256 rest) (e : makes k rest ≡ true) where
  so : Makes k rest
  so = made_so k rest e

  made_inside : length (made k rest) ≤ length rest
  made_inside = omega (arith, made_long k rest so.one so.inside, so.inside)

  pub makes_block : MakesBlock k rest (made k rest)
  makes_block =
      record {
        one = so.one;
        passing = passes_true (copy_at k rest) (copy_bytes rest b k) so.passing;
        inside = made_inside;
        copies = made_front k rest so.one so.inside;
        behind =
            made_behind k rest so.one so.inside ∙ ap (λ (n : ℕ). drop copies_length (take n rest)) (sym (made_long k rest so.one so.inside));
        meets =
            (accepts_exactly.only (made k rest) most_words (made_bytes k rest b) (number_is (made k rest) most_words ∙ so.accepted)).0;
      }

pub makes_exactly : MakesExactly
makes_exactly =
    record {
      there = makes_block;
      only =
          λ k rest block b m. (
            so_made k rest
                (record {
                  one = m.one;
                  passing = true_passes (copy_at k rest) m.passing;
                  inside = omega (arith, block_long k rest block m, m.inside);
                  accepted = made_accepted k rest block m b;
                }),
            block_is k rest block m,
          );
      least = block_least;
    }

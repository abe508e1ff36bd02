-- Rewriting an accepted block whose copies are equal returns its bytes: each copy passes, and the field does, so each of them is its front
-- with the check word behind it; and the words of a field whose fill is zero make that field.
-- Assumes nothing.
use Prim.Native.Nat.{ℕ, ◌+◌, ◌*◌, ◌≤◌, ◌<◌}
use mathlib.Core.Path.{◌≡◌, sym, ap, ap₂, ◌∙◌, subst}
use mathlib.Core.List.{List, ◌++◌}
use native.Mathlib.Omega.{arith}
use lib.Dec.{lit<}
use lib.ListN.{length, take, drop, length-drop, take-append-drop}
use lib.Seq.{take_at, drop-drop, length-take-le}
use Rattle.bits.specs.Bits.{Below}
use Rattle.bits.specs.Fields.{words_of, field_of}
use Rattle.bits.proofs.LawsBelow.{below_take, below_drop}
use Rattle.bits.proofs.LawsFields.{length_words_of, words_of_below, put_taken}
use Rattle.check_rule.specs.Check.{check_length}
use Rattle.row.specs.Field.{field_bytes}
use Rattle.row.proofs.LawsField.{words_held}
use Rattle.copies.specs.Copies.{header_length, copy_length, copies_length, copy_at}
use Rattle.copies.specs.Agreed.{ThreeEqual}
use Rattle.copies.proofs.LawsAgreed.{copy_long}
use Rattle.header.specs.Asks.{Asks}
use Rattle.block.specs.Layout.{block_length, information_field}
use Rattle.block.specs.Meets.{Meets}
use Rattle.block.proofs.LawsMeets.{each_fill}
use Rattle.block.proofs.LawsReader.{field_long}
use Rattle.block.proofs.KeepsReader.{accepted_meets, answers_truly, words_cut}
use Rattle.writer.specs.Blocks.{sealed}
use Rattle.writer.specs.Answers.{written_block}
use Rattle.writer.specs.Promises.{Writable, AsksFor, Puts, header_read, words_read, WritesBack}
use Rattle.writer.proofs.LawsBlocks.{passes_sealed}
use Rattle.writer.proofs.KeepsWriter.{writes_exactly, writes_front}
use Rattle.writer.proofs.KeepsReadBack.{written_parts}

-- a block's copies, and what is behind them, joined
whole : (block : List ℕ) → copy_at 0 block ++ (copy_at 1 block ++ (copy_at 2 block ++ drop copies_length block)) ≡ block
whole block =
    let joined : (k : ℕ) → take copy_length (drop k block) ++ drop (k + copy_length) block ≡ drop k block =
    λ k. ap (λ (t : List ℕ). take copy_length (drop k block) ++ t) (sym (drop-drop copy_length k block)) ∙ take-append-drop copy_length (drop k block) in
    ap (λ (t : List ℕ). copy_at 0 block ++ (copy_at 1 block ++ t)) (joined (2 * copy_length))
    ∙ ap (λ (t : List ℕ). copy_at 0 block ++ t) (joined copy_length) ∙ joined 0

module _ (block : List ℕ) (m : Meets block) where
  abbrev bytes : ℕ
  bytes = field_bytes m.number m.words

  abbrev header : List ℕ
  header = take header_length m.copy

  abbrev field : List ℕ
  field = information_field bytes block

  abbrev words : List ℕ
  words = words_of m.size m.words field

  words_long : length words ≡ m.words
  words_long = length_words_of m.size m.words field

  -- the common copy is one of the three
  common_long : length m.copy ≡ copy_length
  common_long = let g = m.agreed in ap length (sym g.there) ∙ copy_long block g.long g.place g.within

  asks_for : AsksFor header words
  asks_for =
      record {
        number = m.number;
        version = m.version;
        size = m.size;
        long = length-take-le header_length m.copy (omega (arith, common_long));
        asks = subst (Asks header m.number m.version m.size) (sym words_long) m.asks;
        sized = words_of_below m.size m.words field;
      }

  writable : (lent : ℕ) → length block ≤ lent → Writable header words lent
  unfolding asks_for
  writable lent l = writes_exactly.accepts header words lent asks_for (subst (λ (n : ℕ). block_length (field_bytes m.number n) ≤ lent) (sym words_long) (omega (arith, m.long)))

  module _ (b : Below 256 block) where
    rest_again : sealed (field_of m.size (field_bytes m.number (length words)) words) ≡ drop copies_length block
    rest_again =
        let long : length (drop copies_length block) ≡ bytes + check_length = length-drop copies_length block ∙ omega (arith, m.long) in
        let full = field_long bytes block m.long in
        let fits = (words_held _ _ _ _ m.asks.suits).fits in
        let field_below = below_take 256 bytes (drop copies_length block) (below_drop 256 copies_length block b) in
        ap sealed
        (ap (λ (n : ℕ). field_of m.size n words) (ap (field_bytes m.number) words_long ∙ sym full)
        ∙ put_taken m.size m.words field field_below (omega arith) (each_fill m.size m.words field m.filled))
        ∙ passes_sealed (drop copies_length block) bytes long m.checked

    module _ (c : List ℕ) (same : ThreeEqual block c) where
      copy_again : (k : ℕ) → k < 3 → sealed header ≡ copy_at k block
      copy_again k l =
          let g = m.agreed in
          passes_sealed m.copy header_length common_long g.passing ∙ sym g.there ∙ same g.place g.within ∙ sym (same k l)

      written_again : written_block header words ≡ block
      unfolding asks_for
      written_again =
          let first = copy_again 0 (lit< tt) in
          let second = copy_again 1 (lit< tt) in
          let third = copy_again 2 (lit< tt) in
          written_parts header words asks_for ∙ (λ i. first i ++ (second i ++ (third i ++ rest_again i))) ∙ whole block

    module _ (room : List ℕ) (r : m.words ≤ length room) where
      header_read_is : header_read block room ≡ header
      header_read_is = answers_truly.header block (length room) b m r

      words_read_is : words_read block room ≡ words
      unfolding words_of
      words_read_is = ap₂ take (answers_truly.count block (length room) b m r) (words_cut block room b m r) ∙ take_at words (drop m.words room) m.words words_long

pub writes_back : WritesBack
writes_back block c room lent b e same l =
    let k = accepted_meets block b (length room) e in
    let m = k.0 in
    let put = writes_front (header block m) (words block m) lent (writable block m (length lent) l) in
    subst (λ (s : List ℕ). Puts s (words_read block room) block lent) (sym (header_read_is block m b room k.1))
    (subst (λ (s : List ℕ). Puts (header block m) s block lent) (sym (words_read_is block m b room k.1))
    (subst (λ (s : List ℕ). Puts (header block m) (words block m) s lent) (written_again block m b c same) put))

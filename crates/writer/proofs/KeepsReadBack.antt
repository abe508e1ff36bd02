-- Reading a written block returns what went in: it is three copies that pass, and a field that passes and ends in zeros, so it meets the
-- specification, and the reader's promises say what is read.
-- Assumes nothing.
use Prim.Native.Nat.{ℕ, ◌-◌, ◌*◌, ◌≤◌, ◌<◌}
use mathlib.Core.Path.{◌≡◌, refl, sym, ap, ◌∙◌, subst}
use mathlib.Core.Bool.{true}
use mathlib.Core.List.{List, ◌++◌}
use native.Mathlib.Omega.{arith}
use lib.Dec.{lit<}
use lib.ListN.{length, take, drop, get_or, replicate}
use lib.Seq.{take_at, drop_at}
use Rattle.bits.specs.Bits.{Below, spell, sent}
use Rattle.bits.specs.Fields.{fill_of, field_of, all_zero}
use Rattle.bits.proofs.LawsWords.{length_spell}
use Rattle.bits.proofs.LawsFill.{all_zero_is}
use Rattle.bits.proofs.LawsFields.{length_field_of, field_of_below, sent_field_of}
use Rattle.check_rule.specs.Check.{generator, check_word, bytes_of, passes}
use Rattle.check_rule.specs.Finds.{Passes}
use Rattle.check_rule.proofs.LawsPasses.{true_passes}
use Rattle.row.specs.Field.{field_bytes}
use Rattle.row.proofs.LawsField.{words_held}
use Rattle.copies.specs.Copies.{header_length, copy_length, copies_length, copy_at, header_in}
use Rattle.copies.specs.Agreed.{ThreeEqual}
use Rattle.header.specs.Says.{words_in}
use Rattle.header.specs.Asks.{Asks}
use Rattle.block.specs.Layout.{block_length, information_field}
use Rattle.block.specs.Answers.{answer_of, room_after}
use Rattle.block.specs.Meets.{Meets}
use Rattle.block.proofs.LawsMeets.{fill_each, header_is, words_are}
use Rattle.block.proofs.KeepsReader.{meets_answer, gives_words}
use Rattle.writer.specs.Blocks.{sealed, block_of}
use Rattle.writer.specs.Answers.{written_block}
use Rattle.writer.specs.Promises.{Writable, AsksFor, WritesBlocks, whole_answer, Gives, ReadsBack}
use Rattle.writer.proofs.LawsBlocks.{length_sealed, sealed_passes, sealed_below, thrice, thrice_below, behind_3, thrice_equal, block_parts, length_block}
use Rattle.writer.proofs.KeepsWriter.{bytes_are, writes_exactly}

module _ (h ws : List ℕ) (a : AsksFor h ws) where
  abbrev size : ℕ
  size = a.size

  abbrev bytes : ℕ
  bytes = field_bytes a.number (length ws)

  abbrev copy : List ℕ
  copy = sealed h

  abbrev field : List ℕ
  field = field_of size bytes ws

  abbrev fill : List ℕ
  fill = replicate (bytes * 8 - length ws * size) 0

  -- the written block, taken apart
  abbrev block : List ℕ
  block = thrice copy (sealed field)

  pub written_parts : written_block h ws ≡ block
  written_parts = (λ i. block_of h (a.asks.size i) (bytes_are h ws a i) ws) ∙ block_parts h size bytes ws

  long : length copy ≡ copy_length
  long = length_sealed h ∙ omega (arith, a.long)

  copies : ThreeEqual block copy
  copies = thrice_equal copy (sealed field) long

  header_in_is : take header_length copy ≡ h
  header_in_is = take_at h (bytes_of (check_word h)) header_length a.long

  behind : drop copies_length block ≡ sealed field
  behind = behind_3 copy (sealed field) long

  field_in : information_field bytes block ≡ field
  field_in = ap (take bytes) behind ∙ take_at field (bytes_of (check_word field)) bytes (length_field_of size bytes ws)

  field_sent : sent field ≡ spell size ws ++ fill
  field_sent = sent_field_of size bytes ws (words_held _ _ _ _ a.asks.suits).fits

  zero_fill : all_zero (fill_of size (length ws) field) ≡ true
  unfolding fill_of
  zero_fill =
      ap (λ (s : List ℕ). all_zero (drop (length ws * size) s)) field_sent
      ∙ ap all_zero (drop_at (spell size ws) fill (length ws * size) (length_spell size ws)) ∙ all_zero_is (bytes * 8 - length ws * size)

  block_long : length block ≡ block_length bytes
  block_long = ap length (sym (block_parts h size bytes ws)) ∙ length_block h size bytes ws a.long

  meets : Meets block
  meets =
      record {
        copy = copy;
        number = a.number;
        version = a.version;
        size = size;
        words = length ws;
        agreed =
            record {
              long = omega (arith, block_long);
              place = 0;
              within = lit< tt;
              there = copies 0 (lit< tt);
              passing = sealed_passes h;
              only = λ k l _. copies k l;
            };
        asks = subst (λ (x : List ℕ). Asks x a.number a.version size (length ws)) (sym header_in_is) a.asks;
        long = block_long;
        checked = subst (Passes generator) (sym behind) (sealed_passes field);
        filled =
            subst (λ (f : List ℕ). (i : ℕ) → length ws * size ≤ i → get_or (sent f) i 0 ≡ 0) (sym field_in)
            (fill_each size (length ws) field zero_fill);
      }

  module _ (b : Below 256 h) where
    block_below : Below 256 block
    block_below = thrice_below copy (sealed field) (sealed_below h b) (sealed_below field (field_of_below size bytes ws))

    passed : (k : ℕ) → k < 3 → passes (copy_at k block) ≡ true
    passed k l = ap passes (copies k l) ∙ true_passes copy (sealed_passes h)

    answer : (room : ℕ) → length ws ≤ room → answer_of block room ≡ whole_answer h ws
    unfolding meets
    answer room r =
        let header : header_in block ≡ h = header_is block block_below meets.agreed meets.asks meets.long ∙ header_in_is in
        let count : words_in (header_in block) ≡ length ws = words_are block block_below meets.agreed meets.asks meets.long in
        let one = passed 0 (lit< tt) in
        let two = passed 1 (lit< tt) in
        let three = passed 2 (lit< tt) in
        meets_answer block block_below room meets r
        ∙ (λ i. record { number = 0; header = header i; first = one i; second = two i; third = three i; words = count i })

    left : (room : List ℕ) → length ws ≤ length room → room_after block room ≡ ws ++ drop (length ws) room
    unfolding meets
    left room r = gives_words.sent_ones block room ws fill block_below meets r refl a.sized (ap sent field_in ∙ field_sent)

pub writes_blocks : WritesBlocks
writes_blocks h ws room e = let a = (writes_exactly.only h ws room e).0 in subst Meets (sym (written_parts h ws a)) (meets h ws a)

-- and their copies are equal
pub written_copies : (h ws : List ℕ) (room : ℕ) → Writable h ws room → ThreeEqual (written_block h ws) (sealed h)
written_copies h ws room e = let a = (writes_exactly.only h ws room e).0 in subst (λ (s : List ℕ). ThreeEqual s (sealed h)) (sym (written_parts h ws a)) (copies h ws a)

pub reads_back : ReadsBack
reads_back h ws room lent b e r =
    let a = (writes_exactly.only h ws lent e).0 in
    subst (λ (s : List ℕ). Gives s h ws room) (sym (written_parts h ws a))
    (record { answer = answer h ws a b (length room) r; left = left h ws a b room r })

-- The three demands: what meets section 3 as these statements have it meets it as the reader's own promises have it, and back.
-- Assumes nothing.
use Prim.Native.Nat.{ℕ, zero, suc, ◌+◌, ◌*◌, ◌/◌, ◌%◌, ◌<◌, ◌≤◌}
use mathlib.Core.Path.{◌≡◌, refl, sym, ap, ◌∙◌, subst}
use mathlib.Core.Logic.{◌⊎◌, ⊎_elim, ◌↔◌}
use mathlib.Core.Bool.{Bool, true, false}
use mathlib.Core.List.{List, [], ◌∷◌, ◌++◌}
use native.Mathlib.Omega.{arith}
use lib.Dec.{ltb, lit<}
use lib.ListN.{length, take, drop, get_or}
use borrow.Author.Tests.{ltb-true, ltb-false}
use Rattle.ground.proofs.LawsGrounds.{accepts}
use Rattle.bits.specs.Bits.{Below, words, sent}
use Rattle.bits.specs.Fields.{words_of}
use Rattle.bits.specs.Runs.{Altered}
use Rattle.bits.proofs.LawsWords.{length_spell}
use Rattle.check_rule.specs.Check.{generator}
use Rattle.check_rule.specs.Finds.{Passes}
use Rattle.row.specs.Field.{field_bytes}
use Rattle.row.proofs.LawsField.{bits_whole}
use Rattle.copies.specs.Copies.{copy_at}
use Rattle.copies.specs.Agreed.{ThreeEqual}
use Rattle.header.specs.Asks.{Asks}
use Rattle.header.proofs.LawsAsks.{asked_words}
use Rattle.copies.proofs.LawsAgreed.{each}
use Rattle.block.specs.Layout.{information_field}
use Rattle.block.specs.Answers.{Judged}
use Rattle.block.specs.Grounds.{refusal_by}
use Rattle.block.specs.Answers.{accepted_judged, refused_judged, judged_by, words_laid, room_by, answer_of}
use Rattle.block.specs.Meets as reader
use Rattle.block.specs.Promises as promises
use Rattle.block.proofs.LawsReader.{field_long, judged_number}
use Rattle.block.proofs.KeepsReader.{accepts_exactly, answers_truly, gives_words}
use Rattle.block.proofs.KeepsAltered.{bears_found, finds_altered}
use Rattle.writer.specs.Answers.{written_block}
use Rattle.writer.proofs.KeepsWriter.{writes_front}
use Rattle.writer.proofs.KeepsReadBack.{writes_blocks, written_copies, reads_back}
use Rattle.writer.proofs.KeepsWrittenBack.{writes_back}
use Rattle.scope.specs.Blocks.{Agrees, Asked}
use Rattle.scope.specs.Refusals.{reader_reasons}
use Rattle.scope.specs.Demands.{Accepted, Answered, Meets, Reads, Equal, Rewrites, Received, Finds, Altering}
use Rattle.scope.proofs.LawsReasons.{given_once}
use Rattle.scope.proofs.LawsFormat.{agrees_passes, passes_agrees, agreed_header, header_agreed, bits_field, asked_asks, asked_field, asks_asked}
use Rattle.scope.proofs.LawsGrounds.{bit_in_front}
use Rattle.scope.proofs.KeepsRefusals.{numbers}

-- ---- 1

pub answered : Answered
answered block lent bytes =
    let n = (answer_of block lent).number in
    (n, numbers.reader block lent bytes, λ m f. given_once (reader_reasons block lent) m n f (numbers.reader block lent bytes), refl)

-- ---- 2

pub behind_last : (xs : List ℕ) (i : ℕ) → length xs ≤ i → get_or xs i 0 ≡ 0
behind_last [] i l = refl
behind_last (x ∷ xs) zero l = absurd (omega arith)
behind_last (x ∷ xs) (suc i) l = behind_last xs i (omega arith)

module _ {block : List ℕ} (m : Meets block) where
  abbrev pub a : Asked m.header
  a = m.asked

  pub bytes_are : a.bits / 8 ≡ field_bytes a.block a.words
  unfolding field_bytes
  bytes_are = ap (λ (n : ℕ). n / 8) (bits_field a.long)

  pub bits_are : field_bytes a.block a.words * 8 ≡ a.bits
  bits_are = let e = bytes_are in let w = ap (λ (n : ℕ). n % 16) (bits_field a.long) ∙ bits_whole a.block a.words in omega arith

  unfoldable pub meets_block : reader.Meets block
  meets_block =
      record {
        copy = m.found.common;
        number = a.block;
        version = a.version;
        size = a.size;
        words = a.words;
        agreed = header_agreed m.found;
        asks = subst (λ (h : List ℕ). Asks h a.block a.version a.size a.words) m.found.given (asked_asks a);
        long = m.long ∙ ap (λ (n : ℕ). 90 + n + 2) bytes_are;
        checked = agrees_passes m.checked;
        filled = filled;
      }
    where
      whole : length (information_field (field_bytes a.block a.words) block) ≡ field_bytes a.block a.words
      whole = field_long (field_bytes a.block a.words) block (m.long ∙ ap (λ (n : ℕ). 90 + n + 2) bytes_are)

      filled : (i : ℕ) → a.words * a.size ≤ i → get_or (sent (information_field (field_bytes a.block a.words) block)) i 0 ≡ 0
      filled i l = go (ltb i a.bits) refl
        where
          go : (t : Bool) → ltb i a.bits ≡ t → get_or (sent (information_field (field_bytes a.block a.words) block)) i 0 ≡ 0
          go true e =
              let h = ltb-true i a.bits e in
              bit_in_front (field_bytes a.block a.words) (drop 90 block) i (omega (arith, whole, bits_are, h)) ∙ m.filled i l h
          go false e =
              let h = ltb-false i a.bits e in
              let f = information_field (field_bytes a.block a.words) block in
              behind_last (sent f) i (omega (arith, length_spell 8 f, whole, bits_are, h))

pub block_meets : {block : List ℕ} → reader.Meets block → Meets block
unfolding field_bytes asks_asked
block_meets {block} m =
    record {
      header = take 28 m.copy;
      found = agreed_header m.agreed;
      asked = asks_asked m.asks;
      long = m.long;
      checked = passes_agrees m.checked;
      filled =
          λ i l h.
          let n = field_bytes m.number m.words in
          let whole = field_long n block m.long in
          let w = bits_whole m.number m.words in
          sym (bit_in_front n (drop 90 block) i (omega (arith, whole, w, h))) ∙ m.filled i l;
    }

module _ (block : List ℕ) (lent : ℕ) (bytes : Below 256 block) where
  -- an accepted block was given room for its words
  pub enough : Accepted block lent → (m : reader.Meets block) → m.words ≤ lent
  enough e m = go (ltb lent m.words) refl
    where
      go : (t : Bool) → ltb lent m.words ≡ t → m.words ≤ lent
      go true f = let z : ◌≡◌ {A = ℕ} 0 9 = sym e ∙ accepts_exactly.small block lent bytes m (ltb-true lent m.words f) in absurd (omega arith)
      go false f = ltb-false lent m.words f

  marked : {t : Bool} {s : List ℕ} → (t ≡ true) ↔ Passes generator s → (t ≡ true) ↔ Agrees s
  marked e = (λ y. passes_agrees (e.0 y), λ a. e.1 (agrees_passes a))

-- read by a given header, what it asks for is given
read_by_is : (h block room : List ℕ) (a : Asked h) → (judged_by h block (length room)).number ≡ 0 → ((judged_by h block (length room)).words ≡ a.words)
    × (room_by h block room ≡ words a.size a.words (sent (take (a.bits / 8) (drop 90 block))) ++ drop a.words room)
unfolding judged_by room_by words_of
read_by_is h block room a e =
    let z : refusal_by h block (length room) ≡ 0 = sym (judged_number h block (length room)) ∙ e in
    let C = asked_words (asked_asks a) in (
      ap (λ (r : Judged). r.words) (sym (accepts (accepted_judged h) refused_judged z)) ∙ C,
      sym (accepts (words_laid h block room) (λ (_ : ℕ). room) z)
          ∙ (λ i. words (a.sized i) (C i) (sent (take (sym (asked_field a) i) (drop 90 block))) ++ drop (C i) room),
    )

pub reads : Reads
unfolding meets_block block_meets asks_asked
reads =
    record {
      accepts = λ block lent b m l. accepts_exactly.accepts block lent b (meets_block m) l;
      only = λ block lent b e. let k = accepts_exactly.only block lent b e in (block_meets k.0, k.1);
      count = λ block lent b e m. answers_truly.count block lent b (meets_block m) (enough block lent b e (meets_block m));
      header = λ block lent b e m. answers_truly.header block lent b (meets_block m) (enough block lent b e (meets_block m)) ∙ sym m.found.given;
      first = λ block lent b e. marked block lent b (answers_truly.first block lent b e);
      second = λ block lent b e. marked block lent b (answers_truly.second block lent b e);
      third = λ block lent b e. marked block lent b (answers_truly.third block lent b e);
      by = read_by_is;
      words =
          λ block room b e m.
          gives_words.cut block room b (meets_block m) (enough block (length room) b e (meets_block m))
          ∙ ap (λ (n : ℕ). words m.asked.size m.asked.words (sent (take n (drop 90 block))) ++ drop m.asked.words room) (sym (bytes_are m));
    }

-- ---- 2, there and back

-- a fact of each of the three copies
of_each : (P : List ℕ → Type 0) (block : List ℕ) → P (take 30 block) → P (take 30 (drop 30 block)) → P (take 30 (drop 60 block)) → (k : ℕ) → k < 3 → P (copy_at k block)
of_each P block = each (λ k. P (copy_at k block))

pub equal_copies : {block c : List ℕ} → ThreeEqual block c → Equal block
equal_copies e = record { second = e 1 (lit< tt) ∙ sym (e 0 (lit< tt)); third = e 2 (lit< tt) ∙ sym (e 0 (lit< tt)) }

pub rewrites : Rewrites
rewrites =
    record {
      written =
          λ h ws dest b e.
          let p = writes_front h ws dest e in (
            written_block h ws,
            record { count = p.count; left = p.left },
            block_meets (writes_blocks h ws (length dest) e),
            equal_copies (written_copies h ws (length dest) e),
            λ room l. let g = reads_back h ws room (length dest) b e l in record { answer = g.answer; left = g.left },
          );
      rewritten =
          λ block room dest b e q l.
          let p = writes_back block (take 30 block) room dest b e (of_each (λ x. x ≡ take 30 block) block refl q.second q.third) l in
          record { count = p.count; left = p.left };
    }

-- ---- 3

module _ {Change : List ℕ → List ℕ → Type 0} {one other : List ℕ} (r : Received Change one other) where
  abbrev c : List ℕ
  c = take 30 one

  one_whole : (k : ℕ) × (k < 3) × (copy_at k other ≡ c)
  one_whole = ⊎_elim (λ e. (0, lit< tt, e)) (⊎_elim (λ e. (1, lit< tt, e)) (λ e. (2, lit< tt, e))) r.whole

  pub receives : promises.Received Change one other c
  receives =
      record {
        bytes = r.bytes;
        bytes' = r.received;
        long = r.long;
        equal = of_each (λ x. x ≡ c) one refl r.equal.second r.equal.third;
        each = of_each (λ x. (x ≡ c) ⊎ Change c x) other r.first r.second r.third;
        place = one_whole.0;
        within = one_whole.1;
        whole = one_whole.2;
      }

borne : (Change : List ℕ → List ℕ → Type 0) → promises.Bears Change → Finds Change
borne Change b =
    record {
      copies =
          λ one other room r e f.
          let k = b.copies one other (take 30 one) room (receives r) e f in
          record { accepted = k.number ∙ e; header = k.header; count = k.count; words = k.left };
      field = λ one other room r e f n. ap (λ x. x.number) (b.field one other (take 30 one) room (receives r) e f n).0;
    }

pub altering : Altering
altering =
    record {
      found = λ Change f. borne Change (bears_found Change (λ x y b h n p q. f x y b h n (passes_agrees p) (passes_agrees q)));
      runs = borne (Altered 16) finds_altered;
    }

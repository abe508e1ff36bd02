-- The format as the statements have it, and as the crates' laws have it: each says what the other does.
-- Assumes nothing.
use Prim.Native.Nat.{ℕ, ◌*◌, ◌/◌, ◌%◌, ◌<◌, ◌≤◌, max}
use mathlib.Core.Path.{◌≡◌, refl, sym, ap, ◌∙◌, subst}
use mathlib.Core.Bool.{Bool, true, false, ◌||◌}
use mathlib.Core.List.{List}
use native.Mathlib.Omega.{arith}
use lib.Dec.{lit<, eqb}
use lib.ListN.{take}
use borrow.Author.Tests.{ne_eqb, eqb-true, eqb-false}
use Rattle.ground.proofs.LawsChoice.{no}
use Rattle.check_rule.specs.Check.{generator}
use Rattle.check_rule.specs.Finds.{Passes}
use Rattle.row.specs.Pixels.{image_size}
use Rattle.row.specs.Rows.{fixed_bits}
use Rattle.row.specs.Field.{up_to16, field_bits, field_bytes}
use Rattle.row.proofs.LawsField.{bits_whole}
use Rattle.header.specs.Says.{bytes_in}
use Rattle.copies.specs.Copies.{copy_at}
use Rattle.copies.specs.Agreed.{Agreed}
use Rattle.header.specs.Asks.{Asks}
use Rattle.copies.proofs.LawsAgreed.{each}
use Rattle.header.proofs.LawsAsks.{is_known, asked_block, asked_words}
use Rattle.scope.specs.Sizes.{FieldBits, zeroth, lines, last}
use Rattle.scope.specs.Blocks.{Agrees, Copy, first, second, third, Header, Asked}

-- ---- the check, the copies, the header

pub agrees_passes : {s : List ℕ} → Agrees s → Passes generator s
agrees_passes a = record { message = a.message; followed = a.followed }

pub passes_agrees : {s : List ℕ} → Passes generator s → Agrees s
passes_agrees p = record { message = p.message; followed = p.followed }

pub copy_place : {block c : List ℕ} → Copy block c → (k : ℕ) × (k < 3) × (copy_at k block ≡ c)
copy_place first = (0, lit< tt, refl)
copy_place second = (1, lit< tt, refl)
copy_place third = (2, lit< tt, refl)

pub place_copy : (block : List ℕ) (k : ℕ) → k < 3 → Copy block (copy_at k block)
place_copy block = each (λ k. Copy block (copy_at k block)) first second third

pub agreed_header : {block c : List ℕ} → Agreed block c → Header block (take 28 c)
agreed_header {block} {c} g =
    record {
      long = g.long;
      common = c;
      passing = record { copy = subst (Copy block) g.there (place_copy block g.place g.within); agrees = passes_agrees g.passing };
      only = λ d p. let k = copy_place p.copy in sym k.2 ∙ g.only k.0 k.1 (subst (Passes generator) (sym k.2) (agrees_passes p.agrees));
      given = refl;
    }

pub header_agreed : {block h : List ℕ} (x : Header block h) → Agreed block x.common
header_agreed {block} {h} x =
    let k = copy_place x.passing.copy in
    record {
      long = x.long;
      place = k.0;
      within = k.1;
      there = k.2;
      passing = agrees_passes x.passing.agrees;
      only = λ j l p. x.only (copy_at j block) (record { copy = place_copy block j l; agrees = passes_agrees p });
    }

-- ---- the field's length

bits_between : (b C : ℕ) → 1 ≤ b → b ≤ 10 → max 21440 (up_to16 (C * image_size)) ≡ field_bits b C
unfolding field_bits
bits_between b C l h = no fixed_bits refl (λ i. ne_eqb b 0 (λ e. omega arith) i || ne_eqb b 11 (λ e. omega arith) i) refl

pub field_bits_is : (b C : ℕ) → b ≤ 11 → FieldBits b C (field_bits b C)
unfolding field_bits
field_bits_is b C h = go (eqb b 0) (eqb b 11) refl refl
  where
    go : (t u : Bool) → eqb b 0 ≡ t → eqb b 11 ≡ u → FieldBits b C (field_bits b C)
    go true u e f = subst (λ (x : ℕ). FieldBits x C (field_bits x C)) (sym (eqb-true b 0 e)) zeroth
    go false true e f = subst (λ (x : ℕ). FieldBits x C (field_bits x C)) (sym (eqb-true b 11 f)) last
    go false false e f =
        let k = eqb-false b 0 e in
        let m = eqb-false b 11 f in
        let l : 1 ≤ b = omega arith in
        let g : b ≤ 10 = omega arith in
        subst (FieldBits b C) (bits_between b C l g) (lines l g (record { multiple = omega arith; enough = omega arith; least = omega arith }))

pub bits_field : {b C bits : ℕ} → FieldBits b C bits → bits ≡ field_bits b C
unfolding field_bits
bits_field zeroth = refl
bits_field (lines {b} {C} {u} l h r) =
    let e : u ≡ up_to16 (C * image_size) = omega (arith, r.multiple, r.enough, r.least) in
    ap (max 21440) e ∙ bits_between b C l h
bits_field last = refl

-- ---- what a header asks for

module _ {h : List ℕ} (a : Asked h) where
  pub asked_asks : Asks h a.block a.version a.size a.words
  asked_asks = record { id = a.id; size = a.sized; count = a.counted; version = a.versioned; known = a.known; suits = a.suits }

  pub asked_field : a.bits / 8 ≡ bytes_in h
  unfolding field_bytes
  asked_field = ap (λ (n : ℕ). n / 8) (bits_field a.long ∙ sym (λ i. field_bits (asked_block asked_asks i) (asked_words asked_asks i)))

  pub asked_whole : a.bits % 16 ≡ 0
  asked_whole = ap (λ (n : ℕ). n % 16) (bits_field a.long) ∙ bits_whole a.block a.words

unfoldable pub asks_asked : {h : List ℕ} {b v w C : ℕ} → Asks h b v w C → Asked h
asks_asked {h} {b} {v} {w} {C} a =
    record {
      block = b;
      version = v;
      size = w;
      words = C;
      bits = field_bits b C;
      id = a.id;
      sized = a.size;
      counted = a.count;
      versioned = a.version;
      known = a.known;
      suits = a.suits;
      long = field_bits_is b C (is_known a.id);
    }

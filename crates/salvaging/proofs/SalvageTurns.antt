-- A turn of `salvage`: the span before a block and the block are noted, the block is written, and the search goes on behind it. What is still
-- to be written is what the pieces from there on make.
-- Assumes nothing.
use Prim.Native.Nat.{ℕ, suc, ◌+◌, ◌-◌, ◌*◌, ◌≤◌, ◌<◌}
use mathlib.Core.Path.{◌≡◌, refl, sym, ap, ap₂, subst, ◌∙◌}
use mathlib.Core.Bool.{Bool, true, false}
use mathlib.Core.List.{List, [], ◌∷◌, ◌++◌, append_assoc}
use native.Mathlib.Omega.{arith}
use Rattle.std.specs.Prelude.{Option, Some, None}
use lib.Dec.{ltb}
use lib.ListN.{length, drop, length-drop, length-append}
use borrow.Author.Tests.{le-ltb, ltb-true, ltb-false}
use Rattle.ground.specs.Choice.{pick}
use Rattle.ground.proofs.LawsChoice.{yes, no}
use Rattle.room.specs.Laid.{laid}
use Rattle.room.proofs.LawsLaid.{laid_then}
use Rattle.room.proofs.LawsWritten.{Written, nothing_yet, write_on, written_as, all_written}
use Rattle.recording.specs.Fields.{written, joined}
use Rattle.made.specs.Made.{length_by, makes}
use Rattle.made.proofs.LawsMade.{Makes, made_so, made_long, length_least, length_most}
use Rattle.salvaging.specs.Pieces.{copy_of, start_from, Piece, block, span, gap, block_at, end_at, pieces_from, pieces_of, field_by, fields_of, recording_of, changed_by, report_of, span_entry, words_over, Found, Finds, scratch_at, scratch_found}
use Rattle.salvaging.specs.declared.search.Hit.{Hit}
use Rattle.salvaging.specs.Answers.{SalvageAnswer, bytes_for, numbers_for, done_salvaged, ahead}
use Rattle.salvaging.proofs.LawsSearch.{copy_makes, start_in_is, start_found}
use Rattle.salvaging.proofs.LawsPieces.{fields_gap, report_gap, over_gap, gap_short, entry_long, pieces_hit, pieces_end}

-- ---- what a search found

-- nothing, which leaves the scratch words as they were
pub none_words : (input : List ℕ) (from : ℕ) → start_from from input ≡ length input → (scratch : List ℕ) → scratch_found input from scratch ≡ scratch
unfolding scratch_found
none_words input from e scratch = sym (no {x = scratch} _ refl (le-ltb (start_from from input) (length input) (omega (arith, e))) refl)

module _ {input : List ℕ} {from start copy bytes : ℕ} (w : from ≤ length input) (f : Found input from start copy bytes) where
  pub behind : from ≤ start
  behind = omega (arith, f.at, start_in_is from input w)

  makes_it : makes copy (drop start input) ≡ true
  makes_it =
      let at : copy_of (drop start input) < 3 = subst (λ (k : ℕ). copy_of (drop k input) < 3) (sym f.at) (start_found from input w (omega (arith, f.at, f.inside))) in
      subst (λ (k : ℕ). makes k (drop start input) ≡ true) (sym f.which) (copy_makes (drop start input) at)

  pub spot : Makes copy (drop start input)
  spot = made_so copy (drop start input) makes_it

  pub least : 2772 ≤ bytes
  least = omega (arith, f.long, length_least copy (drop start input))

  pub most : bytes < 65536
  most = omega (arith, f.long, length_most copy (drop start input) spot)

  pub ends_in : start + bytes ≤ length input
  ends_in = omega (arith, f.inside, f.long, spot.inside, length-drop start input)

-- ---- the words of the blocks behind the one that was found

-- those of the next block stand in the scratch words already
unfoldable pub over_next : List ℕ → List Piece → List ℕ → List ℕ
over_next input [] scratch = scratch
over_next input (block s n k ∷ ps) scratch = words_over input ps scratch
over_next input (span s n ∷ ps) scratch = over_next input ps scratch

next_gap : (input : List ℕ) (from to : ℕ) (ps : List Piece) (scratch : List ℕ) → over_next input (gap from to ++ ps) scratch ≡ over_next input ps scratch
unfolding gap over_next
next_gap input from to ps scratch = by (ltb from to)
  where
    by : (t : Bool) → over_next input (pick t (span from (to - from) ∷ []) [] ++ ps) scratch ≡ over_next input ps scratch
    by true = refl
    by false = refl

found_next : (n from : ℕ) (input lent : List ℕ) {scratch : List ℕ} → scratch ≡ scratch_found input from lent
    → words_over input (pieces_from (suc n) from input) lent ≡ over_next input (pieces_from (suc n) from input) scratch
unfolding scratch_found words_over over_next block_at
found_next n from input lent {scratch} e = by (ltb (start_from from input) (length input)) refl
  where
    by : (t : Bool) → ltb (start_from from input) (length input) ≡ t
        → words_over input (pieces_from (suc n) from input) lent ≡ over_next input (pieces_from (suc n) from input) scratch
    by true t =
        let p = pieces_hit n from input (ltb-true (start_from from input) (length input) t) in
        let ps : List Piece = block_at (start_from from input) input ∷ pieces_from n (end_at (start_from from input) input) input in
        ap (λ (x : List Piece). words_over input x lent) p ∙ over_gap input from (start_from from input) ps lent
        ∙ ap (words_over input (pieces_from n (end_at (start_from from input) input) input)) (yes {x = scratch_at (start_from from input) input lent} lent refl t refl ∙ sym e)
        ∙ sym (ap (λ (x : List Piece). over_next input x scratch) p ∙ next_gap input from (start_from from input) ps scratch)
    by false t =
        let p = pieces_end n from input (ltb-false (start_from from input) (length input) t) in
        ap (λ (x : List Piece). words_over input x lent) p ∙ over_gap input from (start_from from input) [] lent
        ∙ no {x = lent} (scratch_at (start_from from input) input lent) refl t refl ∙ sym e
        ∙ sym (ap (λ (x : List Piece). over_next input x scratch) p ∙ next_gap input from (start_from from input) [] scratch)

-- ---- the state of the loop

-- all is done: the answer, and what is lent
pub record Done (input recording₀ recording report₀ report scratch₀ scratch : List ℕ) (r : SalvageAnswer) : Type 0 where
  pub answer : r ≡ done_salvaged input
  pub recorded : recording ≡ ahead (recording_of input (pieces_of input)) recording₀
  pub reported : report ≡ ahead (report_of input (pieces_of input)) report₀
  pub worded : scratch ≡ words_over input (pieces_of input) scratch₀

pub record State (input recording₀ recording report₀ report scratch₀ scratch : List ℕ) (hit : Option Hit) (from end entries blocks : ℕ) : Type 0 where
  pub fuel : ℕ
  pub enough : length input ≤ from + fuel
  pub within : from ≤ length input
  pub found : Finds input from hit
  pub wrote : Written (recording_of input (pieces_of input)) recording₀ recording end (recording_of input (pieces_from (suc fuel) from input))
  pub noted : Written (report_of input (pieces_of input)) report₀ report (entries * 3) (report_of input (pieces_from (suc fuel) from input))
  pub over : over_next input (pieces_of input) scratch₀ ≡ over_next input (pieces_from (suc fuel) from input) scratch
  pub roomy : length scratch ≡ length scratch₀
  pub counted : length (pieces_of input) ≡ entries + length (pieces_from (suc fuel) from input)
  pub fields : length (fields_of input (pieces_of input)) ≡ blocks + length (fields_of input (pieces_from (suc fuel) from input))
  pub shortest : blocks * 2772 ≤ from
  pub few_bytes : end ≤ from + blocks * 3
  pub few_entries : entries ≤ blocks * 2

module _ (input recording report scratch : List ℕ) {hit : Option Hit} where
  pub begins : Finds input 0 hit → State input recording recording report report scratch scratch hit 0 0 0 0
  begins f =
      record {
        fuel = length input;
        enough = omega arith;
        within = omega arith;
        found = f;
        wrote = nothing_yet (recording_of input (pieces_of input)) recording;
        noted = nothing_yet (report_of input (pieces_of input)) report;
        over = refl;
        roomy = refl;
        counted = omega arith;
        fields = omega arith;
        shortest = omega arith;
        few_bytes = omega arith;
        few_entries = omega arith;
      }

-- what was found last, as the loop's test shows it
pub found_as : {input recording₀ recording report₀ report scratch₀ scratch : List ℕ} {hit hit' : Option Hit} {from end entries blocks : ℕ} → hit ≡ hit'
    → State input recording₀ recording report₀ report scratch₀ scratch hit from end entries blocks
    → State input recording₀ recording report₀ report scratch₀ scratch hit' from end entries blocks
found_as {input} {recording₀} {recording} {report₀} {report} {scratch₀} {scratch} {hit} {hit'} {from} {end} {entries} {blocks} e s =
    subst (λ (x : Option Hit). State input recording₀ recording report₀ report scratch₀ scratch x from end entries blocks) e s

-- ---- at a block

module _ {input recording₀ recording report₀ report scratch₀ scratch : List ℕ} {start copy bytes from end entries blocks : ℕ}
    (s : State input recording₀ recording report₀ report scratch₀ scratch (Some (record { start = start; copy = copy; bytes = bytes })) from end entries blocks) where
  abbrev rest : List ℕ
  rest = drop start input

  in_input : start < length input
  in_input = s.found.inside

  pub room : bytes_for (length input) ≤ length recording₀ → end + 3 + bytes ≤ length recording
  room h =
      omega
      (arith, ends_in s.within s.found, behind s.within s.found, least s.within s.found, s.wrote.long, s.few_bytes, s.shortest)

  pub lines : numbers_for (length input) ≤ length report₀ → entries * 3 + 6 ≤ length report
  lines h =
      omega
      (arith, ends_in s.within s.found, behind s.within s.found, least s.within s.found, s.noted.long, s.few_entries, s.shortest)

  fuel_is : s.fuel ≡ suc (s.fuel - 1)
  fuel_is = omega (arith, s.enough, in_input, behind s.within s.found)

  -- the pieces left: the span up to the block, the block, and those behind it
  abbrev more : List Piece
  more = pieces_from (suc (s.fuel - 1)) (start + bytes) input

  block_is : block_at start input ≡ block start bytes copy
  unfolding block_at
  block_is =
      ap (λ (k : ℕ). block start (length_by k rest) k) (sym s.found.which)
      ∙ ap (λ (n : ℕ). block start n copy) (sym s.found.long)

  end_is : end_at start input ≡ start + bytes
  unfolding end_at
  end_is =
      ap (λ (k : ℕ). start + length_by k rest) (sym s.found.which)
      ∙ ap (λ (n : ℕ). start + n) (sym s.found.long)

  left_is : pieces_from (suc s.fuel) from input ≡ gap from start ++ (block start bytes copy ∷ more)
  left_is =
      pieces_hit s.fuel from input (omega (arith, s.found.at, in_input))
      ∙ ap (λ (k : ℕ). gap from k ++ (block_at k input ∷ pieces_from s.fuel (end_at k input) input)) (sym s.found.at)
      ∙ ap₂ (λ (p : Piece) (k : ℕ). gap from start ++ (p ∷ pieces_from s.fuel k input)) block_is end_is
      ∙ ap (λ (n : ℕ). gap from start ++ (block start bytes copy ∷ pieces_from n (start + bytes) input)) fuel_is

  fields_left : fields_of input (pieces_from (suc s.fuel) from input) ≡ field_by copy rest ∷ fields_of input more
  unfolding fields_of
  fields_left = ap (fields_of input) left_is ∙ fields_gap input from start (block start bytes copy ∷ more)

  recording_left : recording_of input (pieces_from (suc s.fuel) from input) ≡ written (field_by copy rest) ++ recording_of input more
  unfolding joined
  recording_left = ap joined fields_left

  abbrev entry : List ℕ
  entry = start ∷ bytes ∷ changed_by copy rest ∷ []

  report_left : report_of input (pieces_from (suc s.fuel) from input) ≡ (span_entry from start ++ entry) ++ report_of input more
  unfolding report_of
  report_left =
      ap (report_of input) left_is ∙ report_gap input from start (block start bytes copy ∷ more)
      ∙ sym (append_assoc (span_entry from start) entry (report_of input more))

  words_left : over_next input (pieces_from (suc s.fuel) from input) scratch ≡ words_over input more scratch
  unfolding over_next
  words_left =
      ap (λ (ps : List Piece). over_next input ps scratch) left_is ∙ next_gap input from start (block start bytes copy ∷ more) scratch

  field_long : length (written (field_by copy rest)) ≡ 3 + bytes
  field_long =
      let p = spot s.within s.found in
      omega (arith, made_long copy rest p.one p.inside, s.found.long)

  pub turn : {recording₁ report₁ report₂ scratch₁ : List ℕ} {hit₁ : Option Hit} {span changed entries₁ end₁ : ℕ}
      → bytes_for (length input) ≤ length recording₀ → numbers_for (length input) ≤ length report₀
      → span ≡ entries + length (gap from start) → report₁ ≡ laid report (entries * 3) (span_entry from start)
      → changed ≡ changed_by copy rest
      → entries₁ ≡ span + 1 → report₂ ≡ laid report₁ (span * 3) (start ∷ bytes ∷ changed ∷ [])
      → end₁ ≡ end + 3 + bytes → recording₁ ≡ laid recording end (written (field_by copy rest))
      → Finds input (start + bytes) hit₁ → scratch₁ ≡ scratch_found input (start + bytes) scratch → length scratch₁ ≡ length scratch
      → State input recording₀ recording₁ report₀ report₂ scratch₀ scratch₁ hit₁ (start + bytes) end₁ entries₁ (blocks + 1)
  turn {recording₁} {report₁} {report₂} {scratch₁} {span} {changed} {entries₁} rb rn sp r₁ ch en r₂ ed rec f w l =
      let b = behind s.within s.found in
      let short = gap_short from start in
      let long = entry_long from start in
      let new : List ℕ = span_entry from start ++ entry in
      let new-long : length new ≡ length (gap from start) * 3 + 3 = length-append (span_entry from start) entry ∙ ap (λ (n : ℕ). n + 3) long in
      let r₃ : report₂ ≡ laid report (entries * 3) new =
      laid_then report (entries * 3) (span_entry from start) (start ∷ bytes ∷ changed ∷ []) (span * 3) r₁ r₂ (omega (arith, sp, long)) s.noted.within
      ∙ ap (λ (n : ℕ). laid report (entries * 3) (span_entry from start ++ (start ∷ bytes ∷ n ∷ []))) ch in
      record {
        fuel = s.fuel - 1;
        enough = omega (arith, s.enough, least s.within s.found, b);
        within = ends_in s.within s.found;
        found = f;
        wrote =
            write_on (written (field_by copy rest)) (written_as _ recording_left s.wrote) (omega (arith, room rb, field_long)) rec (omega (arith, ed, field_long));
        noted = write_on new (written_as _ report_left s.noted) (omega (arith, lines rn, new-long, short)) r₃ (omega (arith, en, sp, new-long));
        over = s.over ∙ words_left ∙ found_next (s.fuel - 1) (start + bytes) input scratch w;
        roomy = l ∙ s.roomy;
        counted = omega (arith, s.counted, ap length left_is, length-append (gap from start) (block start bytes copy ∷ more), en, sp);
        fields = omega (arith, s.fields, ap length fields_left);
        shortest = omega (arith, s.shortest, least s.within s.found, b);
        few_bytes = omega (arith, s.few_bytes, ed, b);
        few_entries = omega (arith, s.few_entries, en, sp, short);
      }

-- ---- behind the last block

module _ {input recording₀ recording report₀ report scratch₀ scratch : List ℕ} {from end entries blocks : ℕ}
    (s : State input recording₀ recording report₀ report scratch₀ scratch None from end entries blocks) where
  pub last_line : numbers_for (length input) ≤ length report₀ → entries * 3 + 3 ≤ length report
  last_line h = omega (arith, s.noted.long, s.few_entries, s.shortest, s.within)

  last_is : pieces_from (suc s.fuel) from input ≡ gap from (length input) ++ []
  last_is = pieces_end s.fuel from input (omega (arith, s.found)) ∙ ap (λ (k : ℕ). gap from k ++ []) s.found

  fields_none : fields_of input (pieces_from (suc s.fuel) from input) ≡ []
  unfolding fields_of
  fields_none = ap (fields_of input) last_is ∙ fields_gap input from (length input) []

  recording_done : (end ≡ length (recording_of input (pieces_of input))) × (recording ≡ ahead (recording_of input (pieces_of input)) recording₀)
  unfolding joined
  recording_done = all_written (written_as [] (ap joined fields_none) s.wrote)

  words_done : over_next input (pieces_of input) scratch₀ ≡ scratch
  unfolding over_next
  words_done = s.over ∙ ap (λ (ps : List Piece). over_next input ps scratch) last_is ∙ next_gap input from (length input) [] scratch

  pub ends : {report₁ lent : List ℕ} {entries₁ : ℕ} → numbers_for (length input) ≤ length report₀ → scratch₀ ≡ scratch_found input 0 lent
      → entries₁ ≡ entries + length (gap from (length input)) → report₁ ≡ laid report (entries * 3) (span_entry from (length input))
      → Done input recording₀ recording report₀ report₁ lent scratch (record { number = 0; bytes = end; entries = entries₁; blocks = blocks })
  unfolding report_of
  ends {report₁} {lent} {entries₁} h w e r =
      let rest : report_of input (pieces_from (suc s.fuel) from input) ≡ span_entry from (length input) ++ [] = ap (report_of input) last_is ∙ report_gap input from (length input) [] in
      let long = entry_long from (length input) in
      let noted : Written (report_of input (pieces_of input)) report₀ report₁ (entries₁ * 3) [] =
      write_on (span_entry from (length input)) (written_as (span_entry from (length input) ++ []) rest s.noted) (omega (arith, last_line h, long, gap_short from (length input))) r (omega (arith, e, long)) in
      let count : entries₁ ≡ length (pieces_of input) = omega (arith, s.counted, ap length last_is, length-append (gap from (length input)) [], e) in
      let field-count : blocks ≡ length (fields_of input (pieces_of input)) = omega (arith, s.fields, ap length fields_none) in
      record {
        answer = λ i. record { number = 0; bytes = recording_done.0 i; entries = count i; blocks = field-count i };
        recorded = recording_done.1;
        reported = (all_written noted).1;
        worded = sym (found_next (length input) 0 input lent w ∙ words_done);
      }

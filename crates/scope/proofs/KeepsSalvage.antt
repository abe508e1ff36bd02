-- Salvage: what comes of a search, and what is true of its finds.
-- Assumes nothing.
use Prim.Native.Nat.{ℕ, ◌+◌, ◌-◌, ◌*◌, ◌/◌, ◌%◌, ◌^◌, ◌<◌}
use mathlib.Core.Path.{◌≡◌, refl, sym, ap, ap₂, ◌∙◌, subst}
use mathlib.Core.Logic.{◌⊎◌, inl, inr, ⊎_elim, ◌↔◌}
use mathlib.Core.Bool.{Bool, true, false}
use mathlib.Core.List.{List, [], ◌∷◌, ◌++◌}
use native.Mathlib.Omega.{arith}
use lib.Dec.{lit<, eqb}
use lib.ListN.{length, take, drop}
use borrow.Author.Tests.{eqb-true, eqb-false}
use Rattle.bits.specs.Bits.{Below}
use Rattle.bits.specs.Runs.{Altered}
use Rattle.bits.proofs.LawsBelow.{below_append}
use Rattle.copies.specs.Copies.{copy_at}
use Rattle.made.specs.Made.{made}
use Rattle.made.proofs.KeepsMade.{makes_exactly, made_bytes}
use Rattle.block.specs.Answers.{room_after}
use Rattle.recording.specs.Fields as recording
use Rattle.recording.specs.Fields.{Field, joined}
use Rattle.salvaging.specs.Pieces as pieces
use Rattle.salvaging.specs.Pieces.{Piece, pieces_of, fields_of, recording_of, changed_by, report_of, words_over}
use Rattle.salvaging.specs.Answers.{salvaged_of}
use Rattle.salvaging.specs.Promises as promises
use Rattle.salvaging.specs.Promises.{FirstCopy, Right, bytes_of, bodies, TooSmall, NoBlock}
use Rattle.salvaging.proofs.KeepsSearch.{searched, covers_once, room_suffices}
use Rattle.salvaging.proofs.KeepsRecords.{kept, records, changes, refuses_exactly, done_answer, done_recording, done_report, done_words}
use Rattle.salvaging.proofs.KeepsRuins.{restores, again_same}
use Rattle.report.proofs.KeepsReport.{prints_report, prints_kinds, prints_changed}
use Rattle.scope.specs.Notions.{FirstOf}
use Rattle.scope.specs.Demands.{Accepted, Received}
use Rattle.scope.specs.Salvage.{copy_from, Makes, Found, block, Search, recorded, blocks_in, Changed, Report, end, of_block, of_span, read_all, salvage_reasons, Gives, lying_on, Among, NoneOver, as_fields, back_to_back, Each, Stands, OfFinds, Salvage}
use Rattle.scope.proofs.KeepsDemands.{equal_copies, receives, reads, altering}
use Rattle.scope.proofs.LawsFound.{copy_is, makes_block, block_makes, as_found, to_founds, below, n_is, makes_it, canonical, one_search}

-- ---- what comes of it

module _ (input : List ℕ) (bytes : Below 256 input) where
  changed_is : (s k : ℕ) → Changed input s (k + 1) (changed_by k (drop s input))
  changed_is s k =
      let x = changes k (drop s input) in
      let k-is : k + 1 - 1 ≡ k = omega arith in
      let same : (j : ℕ) → copy_at j (drop s input) ≡ copy_from input s (j + 1) = λ j. let q : j + 1 - 1 ≡ j = omega arith in ap (λ (i : ℕ). copy_at i (drop s input)) (sym q) ∙ copy_is input s (j + 1) (omega arith) in
      let swap : (j : ℕ) → ((copy_at j (drop s input) ≡ copy_at k (drop s input) → ⊥) ↔ (copy_from input s (j + 1) ≡ copy_from input s (k + 1) → ⊥)) =
      λ j. ((λ f e. f (same j ∙ e ∙ sym (same k))), λ f e. f (sym (same j) ∙ e ∙ same k)) in
      let turn : (j : ℕ) → j < 3 → (changed_by k (drop s input) / 2 ^ j % 2 ≡ 1) ↔ (copy_from input s (j + 1) ≡ copy_from input s (k + 1) → ⊥) =
      λ j h. ((λ e. (swap j).0 ((x.1 j h).0 e)), λ f. (x.1 j h).1 ((swap j).1 f)) in
      let one : changed_by k (drop s input) / 1 % 2 ≡ changed_by k (drop s input) % 2 = omega arith in
      record {
        small = x.0;
        first = ((λ e. (turn 0 (lit< tt)).0 (one ∙ e)), λ f. sym one ∙ (turn 0 (lit< tt)).1 f);
        second = turn 1 (lit< tt);
        third = turn 2 (lit< tt);
      }

  reports : (ps : List Piece) → Right input ps → Report input (to_founds input ps) (report_of input ps)
  unfolding to_founds report_of Right
  reports [] r = end
  reports (pieces.block s n k ∷ ps) r =
      subst (λ (m : ℕ). Report input (block s (k + 1) (made k (drop s input)) ∷ to_founds input ps) (s ∷ m ∷ changed_by k (drop s input) ∷ report_of input ps)) (sym (n_is input bytes s n k r.0))
      (of_block s (k + 1) (made k (drop s input)) (changed_by k (drop s input)) (changed_is s k) (reports ps r.1))
  reports (pieces.span s n ∷ ps) r = of_span s n (reports ps r.1)

recorded_is : (input : List ℕ) (ps : List Piece) → recorded (to_founds input ps) ≡ recording_of input ps
unfolding recorded to_founds fields_of joined
recorded_is input [] = refl
recorded_is input (pieces.block s n k ∷ ps) =
    let b = made k (drop s input) in ap (λ (l : List ℕ). 1 ∷ length b / 256 ∷ length b % 256 ∷ (b ++ l)) (recorded_is input ps)
recorded_is input (pieces.span s n ∷ ps) = recorded_is input ps

found_count : (input : List ℕ) (ps : List Piece) → length (to_founds input ps) ≡ length ps
unfolding to_founds
found_count input [] = refl
found_count input (pieces.block s n k ∷ ps) = omega (arith, found_count input ps)
found_count input (pieces.span s n ∷ ps) = omega (arith, found_count input ps)

block_count : (input : List ℕ) (ps : List Piece) → length (blocks_in (to_founds input ps)) ≡ length (fields_of input ps)
unfolding to_founds blocks_in fields_of
block_count input [] = refl
block_count input (pieces.block s n k ∷ ps) = omega (arith, block_count input ps)
block_count input (pieces.span s n ∷ ps) = block_count input ps

words_read_is : (input : List ℕ) (ps : List Piece) (scratch : List ℕ) → words_over input ps scratch ≡ read_all (blocks_in (to_founds input ps)) scratch
unfolding to_founds blocks_in words_over read_all
words_read_is input [] scratch = refl
words_read_is input (pieces.block s n k ∷ ps) scratch = words_read_is input ps (room_after (made k (drop s input)) scratch)
words_read_is input (pieces.span s n ∷ ps) scratch = words_read_is input ps scratch

module _ (input recording report scratch : List ℕ) (bytes : Below 256 input)
    (z : (salvaged_of input (length recording) (length report) (length scratch)).number ≡ 0) where
  abbrev laid_out : List Piece
  laid_out = pieces_of input

  gives_canonical : Gives input recording report scratch (to_founds input (pieces_of input))
  gives_canonical =
      record {
        answer =
            done_answer input (length recording) (length report) (length scratch) z
            ∙ (λ i. record { number = 0; bytes = length (sym (recorded_is input laid_out) i); entries = sym (found_count input laid_out) i; blocks = sym (block_count input laid_out) i });
        written =
            done_recording input recording (length report) (length scratch) z
            ∙ ap (λ (l : List ℕ). l ++ drop (length l) recording) (sym (recorded_is input laid_out));
        numbers = report_of input laid_out;
        reported = reports input bytes laid_out (searched input bytes).right;
        noted = done_report input (length recording) report (length scratch) z;
        words = done_words input (length recording) (length report) scratch z ∙ words_read_is input laid_out scratch;
      }

module _ (input : List ℕ) (m r w : ℕ) (bytes : Below 256 input) where
  abbrev n : ℕ
  n = (salvaged_of input m r w).number

  abbrev Small : Type 0
  Small = (m < length input + 3 * (length input / 2772)) ⊎ ((r < 3 * (2 * (length input / 2772) + 1)) ⊎ (w < 21008))

  small_is : TooSmall (length input) m r w ↔ Small
  small_is = (
    ⊎_elim (λ x. inl (omega arith)) (⊎_elim (λ x. inr (inl (omega arith))) (λ x. inr (inr x))),
    ⊎_elim (λ x. inl (omega arith)) (⊎_elim (λ x. inr (inl (omega arith))) (λ x. inr (inr x))),
  )

  none_is : NoBlock input ↔ ((s k : ℕ) (b : List ℕ) → Makes input s k b → ⊥)
  none_is = ((λ f s k b x. f s (k - 1) b (makes_block input s k b x)), λ f s k b x. f s (k + 1) b (block_makes input s k b x))

  first_number : FirstOf (salvage_reasons input m r w) (salvaged_of input m r w).number
  first_number = by (eqb n 9) (eqb n 18) refl refl
    where
      by : (t u : Bool) → eqb n 9 ≡ t → eqb n 18 ≡ u → FirstOf (salvage_reasons input m r w) (salvaged_of input m r w).number
      by true u e g = let q = eqb-true n 9 e in inl (small_is.0 ((refuses_exactly.nine input m r w).0 q), q)
      by false true e g =
          let q = eqb-true n 18 g in
          let x = (refuses_exactly.eighteen input m r w bytes).0 q in
          inr ((λ s. x.0 (small_is.1 s)), inl (none_is.0 x.1, q))
      by false false e g =
          let not9 = eqb-false n 9 e in
          let not18 = eqb-false n 18 g in
          let big : Small → ⊥ = λ s. not9 ((refuses_exactly.nine input m r w).1 (small_is.1 s)) in
          inr (big, inr ((λ f. not18 ((refuses_exactly.eighteen input m r w bytes).1 ((λ s. big (small_is.0 s)), none_is.1 f))), refuses_exactly.others input m r w not9 not18))

-- ---- what is true of the finds

module _ (input : List ℕ) (bytes : Below 256 input) where
  stands : {s n k : ℕ} → FirstCopy input s n k → Stands (made k (drop s input))
  stands {s} {n} {k} f =
      let b = made k (drop s input) in
      let m = (makes_it input bytes s n k f).meets in
      let st = (kept input bytes f).stands in
      let under : Below 256 b = made_bytes k (drop s input) (below input bytes s) in
      record {
        meets = m;
        equal = equal_copies st.equal;
        accepted = st.accepted;
        words = λ room l. reads.words b room under (st.accepted (length room) l) m;
        copies = λ other room l r d. altering.runs.copies b other room r (st.accepted (length room) l) d;
        field = λ other room l r a d. altering.runs.field b other room r (st.accepted (length room) l) a d;
        listed = (kept input bytes f).listed;
      }

  stand_all : (ps : List Piece) → Right input ps → Each Stands (blocks_in (to_founds input ps))
  unfolding Right to_founds blocks_in Each
  stand_all [] r = tt
  stand_all (pieces.block s n k ∷ ps) r = (stands r.0, stand_all ps r.1)
  stand_all (pieces.span s n ∷ ps) r = stand_all ps r.1

  lying_is : (ps : List Piece) → Right input ps → lying_on input (to_founds input ps) ≡ bytes_of input ps
  unfolding Right to_founds lying_on bytes_of
  lying_is [] r = refl
  lying_is (pieces.block s n k ∷ ps) r =
      ap₂ (λ (m : ℕ) (l : List ℕ). take m (drop s input) ++ l) (sym (n_is input bytes s n k r.0)) (lying_is ps r.1)
  lying_is (pieces.span s n ∷ ps) r = ap (λ (l : List ℕ). take n (drop s input) ++ l) (lying_is ps r.1)

  fields_are : (ps : List Piece) → as_fields (blocks_in (to_founds input ps)) ≡ fields_of input ps
  unfolding to_founds blocks_in as_fields fields_of
  fields_are [] = refl
  fields_are (pieces.block s n k ∷ ps) = ap (λ (l : List Field). record { tag = 1; body = made k (drop s input) } ∷ l) (fields_are ps)
  fields_are (pieces.span s n ∷ ps) = fields_are ps

  bodies_are : (ps : List Piece) → back_to_back (blocks_in (to_founds input ps)) ≡ bodies (fields_of input ps)
  unfolding to_founds blocks_in back_to_back fields_of bodies
  bodies_are [] = refl
  bodies_are (pieces.block s n k ∷ ps) = ap (λ (l : List ℕ). made k (drop s input) ++ l) (bodies_are ps)
  bodies_are (pieces.span s n ∷ ps) = bodies_are ps

  bodies_below : (ps : List Piece) → Below 256 (bodies (fields_of input ps))
  unfolding fields_of bodies
  bodies_below [] = tt
  bodies_below (pieces.block s n k ∷ ps) =
      below_append 256 (made k (drop s input)) (bodies (fields_of input ps)) (made_bytes k (drop s input) (below input bytes s)) (bodies_below ps)
  bodies_below (pieces.span s n ∷ ps) = bodies_below ps

  -- the recording of any search is that of the pieces
  recorded_once : (fs : List Found) → Search input 0 fs → recorded fs ≡ recording_of input (pieces_of input)
  recorded_once fs s = ap recorded (canonical input bytes fs s) ∙ recorded_is input (pieces_of input)

module _ (input : List ℕ) (bytes : Below 256 input) where
  abbrev all : List Piece
  all = pieces_of input

  again : (gs : List Found) → Search (back_to_back (blocks_in (to_founds input all))) 0 gs → recorded gs ≡ recorded (to_founds input all)
  again gs g =
      recorded_once (bodies (fields_of input all)) (bodies_below input bytes all) gs (subst (λ (x : List ℕ). Search x 0 gs) (bodies_are input bytes all) g)
      ∙ again_same input bytes ∙ sym (recorded_is input all)

  of_finds : OfFinds input (to_founds input all)
  of_finds =
      let long = room_suffices.bytes input bytes in
      let many = room_suffices.entries input bytes in
      record {
        covers = lying_is input bytes all (searched input bytes).right ∙ covers_once input bytes;
        fields =
            ap recording.recording_of (recorded_is input all) ∙ records.fields input
            ∙ ap (λ (fs : List Field). record { fields = fs; cut = false }) (sym (fields_are input bytes all));
        stand = stand_all input bytes all (searched input bytes).right;
        room = omega (arith, long, ap length (recorded_is input all));
        entries = omega (arith, many, found_count input all);
        twice = again;
      }

-- ---- copies in ruins

among_found : (input : List ℕ) (p : Piece) (ps : List Piece) → promises.Among p ps → Among (as_found input p) (to_founds input ps)
unfolding promises.Among Among to_founds
among_found input p [] a = a
among_found input p (q ∷ ps) (inl e) = inl (ap (as_found input) e)
among_found input p (q ∷ ps) (inr a) = inr (among_found input p ps a)

abbrev IsSpan : Piece → Type 0
IsSpan (pieces.block s n k) = ⊥
IsSpan (pieces.span s n) = Unit {0}

-- a block among the pieces is the first copy's
among_right : (input : List ℕ) (s n k : ℕ) (ps : List Piece) → Right input ps → promises.Among (pieces.block s n k) ps → FirstCopy input s n k
unfolding promises.Among Right
among_right input s n k [] r a = absurd a
among_right input s n k (pieces.block s' n' k' ∷ ps) r (inl e) = (subst (λ (p : Piece). Right input (p ∷ [])) (sym e) (r.0, tt)).0
among_right input s n k (pieces.block s' n' k' ∷ ps) r (inr a) = among_right input s n k ps r.1 a
among_right input s n k (pieces.span s' n' ∷ ps) r (inl e) = absurd (subst IsSpan (sym e) tt)
among_right input s n k (pieces.span s' n' ∷ ps) r (inr a) = among_right input s n k ps r.1 a

module _ (before one other behind : List ℕ) (bytes : Below 256 (before ++ (other ++ behind))) (r : Received (Altered 16) one other)
    (a : Accepted one 21008) (d : drop 90 other ≡ drop 90 one) where
  abbrev whole : List ℕ
  whole = before ++ (other ++ behind)

  none_over : NoneOver (to_founds whole (pieces_of whole)) (length before) → promises.NoneOver (pieces_of whole) (length before)
  none_over over i n k m l =
      let n-long = n_is whole bytes i n k (among_right whole i n k (pieces_of whole) (searched whole bytes).right m) in
      let x = over i (k + 1) (made k (drop i whole)) (among_found whole (pieces.block i n k) (pieces_of whole) m) l in
      omega (arith, n-long, x)

  ruins : NoneOver (to_founds whole (pieces_of whole)) (length before) → (k : ℕ) × Among (block (length before) k one) (to_founds whole (pieces_of whole))
  ruins over =
      let x = restores before one other behind (take 30 one) bytes (receives r) a d (none_over over) in
      let k = x.0 in
      let same : one ≡ made k (drop (length before) whole) = (makes_exactly.only k (drop (length before) whole) one (below whole bytes (length before)) x.1.1).1 in (
        k + 1,
        subst (λ (b : List ℕ). Among (block (length before) (k + 1) b) (to_founds whole (pieces_of whole))) (sym same)
            (among_found whole (pieces.block (length before) (length one) k) (pieces_of whole) x.1.0),
      )

pub salvage : Salvage
salvage =
    record {
      searched = λ input b. (to_founds input (pieces_of input), one_search input b);
      once = λ input fs gs b x y. canonical input b fs x ∙ sym (canonical input b gs y);
      number = first_number;
      zeros = refuses_exactly.zeros;
      bytes_left = refuses_exactly.recorded;
      numbers_left = refuses_exactly.reported;
      words_left = refuses_exactly.worded;
      gives = λ input recording report scratch fs b s z. subst (Gives input recording report scratch) (sym (canonical input b fs s)) (gives_canonical input recording report scratch b z);
      finds = λ input fs b s. subst (OfFinds input) (sym (canonical input b fs s)) (of_finds input b);
      restores =
          λ before one other behind fs b r a d s over.
          let same = canonical (before ++ (other ++ behind)) b fs s in
          let x = ruins before one other behind b r a d (subst (λ (x : List Found). NoneOver x (length before)) same over) in
          (x.0, subst (Among (block (length before) x.0 one)) (sym same) x.1);
      example = prints_report;
      kinds = prints_kinds;
      changed = prints_changed;
    }

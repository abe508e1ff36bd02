-- A contract says its outcome by equations, so that two of them are equal to the same; where it says what is told of an answer, answers of
-- which the same is told are equal.
-- Assumes nothing.
use mathlib.Core.Path.{◌≡◌, refl, sym, ap, ◌∙◌}
use Rattle.std.specs.Prelude.{ℕ, List, [], ◌∷◌, map, eqb, Result, Ok, Err}
use borrow.Author.Tests.{ne_eqb}
use Rattle.ground.specs.Choice.{pick}
use Rattle.ground.specs.declared.Refusal.{Refusal}
use Rattle.ground.specs.Refusals.{number_of, number_in}
use Rattle.ground.proofs.LawsChoice.{no}
use Rattle.ground.proofs.LawsRefusals.{refusal_of, refusal_kept, never_zero, told_once}
use Rattle.copies.specs.Copies as copies_answer
use Rattle.header.specs.Plans as plan_answer
use Rattle.block.specs.Answers as block_answer
use Rattle.records.specs.Records as part_answer
use Rattle.writer.specs.Answers as written_answer
use Rattle.placement.specs.Placement as placed_answer
use Rattle.parity.specs.Sections as sections_answer
use Rattle.detectors.specs.Status as asked_answer
use Rattle.tag.specs.Tags as tag_answer
use Rattle.time.specs.Times as elapsed_answer
use Rattle.sounder.specs.declared.Fault.{Fault}
use Rattle.sounder.specs.declared.Status.{Status}
use Rattle.sounder.specs.Judging as sounder_answer
use Rattle.tag.specs.declared.Tag.{Tag}
use Rattle.watch_bounds.specs.declared.Watch.{Watch}
use Rattle.watch.specs.declared.Stepped.{Stepped}
use Rattle.watch.specs.declared.Verdict.{Verdict}
use Rattle.watch.specs.declared.Verdict.TheVariants.{Stray, Opened, Kept, Closed}
use Rattle.watch.specs.Rules as watch_answer
use Rattle.watch.specs.Verdicts as verdict_answer
use Rattle.salvaging.specs.Answers as salvage_answer
use Rattle.scope.specs.Settled.{AllSettled}

same : {A : Type 0} {a b m : A} → a ≡ m → b ≡ m → a ≡ b
same p q = p ∙ sym q

-- of a test that is passed nothing is told but 0
tested : {x y : Result (Unit {0}) Refusal} {m : ℕ} → number_in x ≡ m → number_in y ≡ m → x ≡ y
tested = told_once number_in (λ n. n) (λ _. tt) (λ v. refl) (λ r. refl) (λ v. refl)

-- the verdict that is told of one
verdict_of : verdict_answer.Verdict → Verdict
verdict_of (verdict_answer.Refused n) = Stray
verdict_of verdict_answer.Stray = Stray
verdict_of verdict_answer.Opened = Opened
verdict_of verdict_answer.Kept = Kept
verdict_of (verdict_answer.Closed why fill count) = Closed why fill count

is_verdict : (v : Verdict) → verdict_of (verdict_answer.verdict_in v) ≡ v
unfolding verdict_of
is_verdict Stray = refl
is_verdict Opened = refl
is_verdict Kept = refl
is_verdict (Closed why fill count) = refl

not_refused : (v : Verdict) → verdict_answer.number_of (verdict_answer.verdict_in v) ≡ 0
not_refused Stray = refl
not_refused Opened = refl
not_refused Kept = refl
not_refused (Closed why fill count) = refl

judged_once : {x y : Result Verdict Refusal} {m : verdict_answer.Verdict} → verdict_answer.told x ≡ m → verdict_answer.told y ≡ m → x ≡ y
judged_once = told_once verdict_answer.told verdict_answer.number_of verdict_of not_refused (λ r. refl) is_verdict

stepped_once : (w : Watch) {x y : Result Stepped Refusal} {m : watch_answer.Stepped} → watch_answer.told_step w x ≡ m → watch_answer.told_step w y ≡ m → x ≡ y
stepped_once w =
    told_once (watch_answer.told_step w) (λ s. verdict_answer.number_of s.verdict) (λ s. record { next = s.next; verdict = verdict_of s.verdict })
    (λ s. not_refused s.verdict) (λ r. refl) (λ s i. record { next = s.next; verdict = is_verdict s.verdict i })

-- each tag of a Sounder block is told by itself
tag_of : tag_answer.TagRead → Result Tag Refusal
tag_of r = pick (eqb r.number 0) (Ok r.tag) (Err (refusal_of r.number))

is_tag : (x : Result Tag Refusal) → tag_of (tag_answer.told_tag x) ≡ x
unfolding tag_of
is_tag (Ok t) = refl
is_tag (Err r) = sym (no _ refl (ne_eqb (number_of r) 0 (never_zero r)) (ap Err (sym (refusal_kept r))))

are_tags : (xs : List (Result Tag Refusal)) → map tag_of (map tag_answer.told_tag xs) ≡ xs
are_tags [] = refl
are_tags (x ∷ xs) = λ i. is_tag x i ∷ are_tags xs i

-- the same with the word that refusal 22 names
module _ {T A : Type 0} (told : Result T Fault → A) (number word : A → ℕ) (ok : A → T)
    (zero : (v : T) → number (told (Ok v)) ≡ 0) (own : (f : Fault) → number (told (Err f)) ≡ number_of f.why)
    (words : (f : Fault) → word (told (Err f)) ≡ f.word) (back : (v : T) → ok (told (Ok v)) ≡ v) where
  fault_of : A → Fault
  fault_of a = record { why = refusal_of (number a); word = word a }

  is_fault : (f : Fault) → fault_of (told (Err f)) ≡ f
  unfolding fault_of
  is_fault f i = record { why = (ap refusal_of (own f) ∙ refusal_kept f.why) i; word = words f i }

  fault_once : {x y : Result T Fault} {m : A} → told x ≡ m → told y ≡ m → x ≡ y
  fault_once {x} {y} p q = go x y (p ∙ sym q)
    where
      go : (x y : Result T Fault) → told x ≡ told y → x ≡ y
      go (Ok v) (Ok w) e = ap Ok (sym (back v) ∙ ap ok e ∙ back w)
      go (Ok v) (Err f) e = absurd (never_zero f.why (sym (own f) ∙ sym (ap number e) ∙ zero v))
      go (Err f) (Ok v) e = absurd (never_zero f.why (sym (own f) ∙ ap number e ∙ zero v))
      go (Err f) (Err g) e = ap Err (sym (is_fault f) ∙ ap fault_of e ∙ is_fault g)

status_once : {x y : Result Status Fault} {m : sounder_answer.StatusAnswer} → sounder_answer.told_status x ≡ m → sounder_answer.told_status y ≡ m → x ≡ y
status_once =
    fault_once sounder_answer.told_status (λ a. a.number) (λ a. a.word)
    (λ a. record { suspects = a.suspects; first = a.first; raw = a.raw; blocks = a.blocks; frame = a.frame; tags = map tag_of a.tags })
    (λ v. refl) (λ f. refl) (λ f. refl)
    (λ v i. record { suspects = v.suspects; first = v.first; raw = v.raw; blocks = v.blocks; frame = v.frame; tags = are_tags v.tags i })

pub settled : AllSettled
settled =
    record {
      ground = λ _ _ x y. (same x.allowed y.allowed, refl);
      bits = (
        λ _ _ x y. (same x.allowed y.allowed, refl),
        λ _ _ x y. (same x.allowed y.allowed, refl),
        λ _ _ x y. (same x.allowed y.allowed, refl),
        λ _ _ x y. (same x.allowed y.allowed, refl),
        λ _ _ x y. (same x.allowed y.allowed, refl),
      );
      taking = λ _ _ x y. (tested x.allowed.0 y.allowed.0, λ i. (tt, (tt, (tt, (same x.allowed.1 y.allowed.1 i, tt)))));
      putting = λ _ _ x y. (tested x.allowed.0 y.allowed.0, λ i. (tt, (tt, (same x.allowed.1 y.allowed.1 i, tt))));
      check_eight_is = (
        λ _ _ x y. (same x.allowed y.allowed, refl),
        λ _ _ x y. (same x.allowed y.allowed, refl),
        λ _ _ x y. (same x.allowed y.allowed, refl),
      );
      check_window_is = λ _ _ x y. (same x.allowed y.allowed, refl);
      check_word_is = (
        λ _ _ x y. (same x.allowed y.allowed, refl),
        λ _ _ x y. (same x.allowed y.allowed, refl),
      );
      room = λ _ _ x y. (same x.allowed.0 y.allowed.0, λ i. (tt, (same x.allowed.1 y.allowed.1 i, (tt, tt))));
      row = (
        λ _ _ x y. (λ i. record { 0 = same x.allowed y.allowed i }, refl),
        λ _ _ x y. (same x.allowed y.allowed, refl),
        λ _ _ x y. (λ i. record { 0 = same x.allowed y.allowed i }, refl),
        λ _ _ x y. (same x.allowed y.allowed, refl),
        λ _ _ x y. (same x.allowed y.allowed, refl),
      );
      copies = λ _ _ x y. (told_once copies_answer.told (λ a. a.number) (λ a. record { header = a.header; first = a.first; second = a.second; third = a.third }) (λ v. refl) (λ r. refl) (λ v. refl) x.allowed y.allowed, refl);
      header = λ _ _ x y. (told_once plan_answer.told (λ a. a.number) (λ a. record { block = a.block; version = a.version; size = a.size; records = a.records; words = a.words; bytes = a.bytes }) (λ v. refl) (λ r. refl) (λ v. refl) x.allowed y.allowed, refl);
      block = (
        λ _ _ x y. (
          told_once block_answer.told_by (λ a. a.number) (λ a. a.words) (λ v. refl) (λ r. refl) (λ v. refl) x.allowed.0 y.allowed.0,
          λ i. (tt, (tt, (same x.allowed.1 y.allowed.1 i, tt))),
        ),
        λ _ _ x y. (
          told_once block_answer.told (λ a. a.number) (λ a. record { common = record { header = a.header; first = a.first; second = a.second; third = a.third }; words = a.words }) (λ v. refl) (λ r. refl) (λ v. refl) x.allowed.0 y.allowed.0,
          λ i. (tt, (same x.allowed.1 y.allowed.1 i, tt)),
        ),
      );
      records = (
        λ _ _ x y. (told_once part_answer.told (λ a. a.number) (λ a. record { start = a.start; length = a.length }) (λ v. refl) (λ r. refl) (λ v. refl) x.allowed y.allowed, refl),
        λ _ _ x y. (same x.allowed y.allowed, refl),
      );
      writer = λ _ _ x y. (told_once written_answer.told (λ a. a.number) (λ a. a.bytes) (λ v. refl) (λ r. refl) (λ v. refl) x.allowed.0 y.allowed.0, λ i. (tt, (tt, (same x.allowed.1 y.allowed.1 i, tt))));
      placement = λ _ _ x y. (told_once placed_answer.told (λ a. a.number) (λ a. record { channel = a.channel; detector = a.detector }) (λ v. refl) (λ r. refl) (λ v. refl) x.allowed y.allowed, refl);
      parity = (
        λ _ _ x y. (same x.allowed y.allowed, refl),
        λ _ _ x y. (tested x.allowed y.allowed, refl),
        λ _ _ x y. (told_once sections_answer.told (λ a. a.number) (λ a. record { count = a.count; holds = a.holds }) (λ v. refl) (λ r. refl) (λ v. refl) x.allowed y.allowed, refl),
      );
      detectors = (
        λ _ _ x y. (same x.allowed y.allowed, refl),
        λ _ _ x y. (same x.allowed y.allowed, refl),
        λ _ _ x y. (told_once asked_answer.told (λ a. a.number) (λ a. a.suspect) (λ v. refl) (λ r. refl) (λ v. refl) x.allowed y.allowed, refl),
      );
      calendar = (
        λ _ _ x y. (same x.allowed y.allowed, refl),
        λ _ _ x y. (same x.allowed y.allowed, refl),
        λ _ _ x y. (same x.allowed y.allowed, refl),
        λ _ _ x y. (same x.allowed.0 y.allowed.0, refl),
      );
      tag = (
        λ _ _ x y. (same x.allowed y.allowed, refl),
        λ _ _ x y. (same x.allowed y.allowed, refl),
        λ _ _ x y. (told_once tag_answer.told_tag (λ a. a.number) (λ a. a.tag) (λ v. refl) (λ r. refl) (λ v. refl) x.allowed y.allowed, refl),
        λ _ _ x y. (told_once tag_answer.told_tag (λ a. a.number) (λ a. a.tag) (λ v. refl) (λ r. refl) (λ v. refl) x.allowed y.allowed, refl),
        λ _ _ x y. (told_once tag_answer.told_bytes (λ a. a.number) (λ a. a.bytes) (λ v. refl) (λ r. refl) (λ v. refl) x.allowed y.allowed, refl),
      );
      time = (
        λ _ _ x y. (same x.allowed y.allowed, refl),
        λ _ _ x y. (told_once elapsed_answer.told (λ a. a.number) (λ a. a.ms) (λ v. refl) (λ r. refl) (λ v. refl) x.allowed y.allowed, refl),
      );
      sounder = (
        λ _ _ x y. (status_once x.allowed y.allowed, refl),
        λ _ _ x y. (
          fault_once sounder_answer.told_asked (λ a. a.number) (λ a. a.word) (λ a. a.suspect) (λ v. refl) (λ f. refl) (λ f. refl) (λ v. refl) x.allowed y.allowed,
          refl,
        ),
      );
      watch_rule_is = λ _ _ x y. (same x.allowed y.allowed, refl);
      watch_bounds_is = (
        λ _ _ x y. (same x.allowed y.allowed, refl),
        λ _ _ x y. (tested x.allowed y.allowed, refl),
        λ _ _ x y. (tested x.allowed y.allowed, refl),
      );
      watch = (
        λ _ _ x y. (told_once watch_answer.told_begun (λ a. a.number) (λ a. a.watch) (λ v. refl) (λ r. refl) (λ v. refl) x.allowed y.allowed, refl),
        λ _ given x y. (stepped_once given.0 x.allowed y.allowed, refl),
        λ _ _ x y. (judged_once x.allowed.1 y.allowed.1, λ i. (same x.allowed.0 y.allowed.0 i, (tt, (tt, (tt, (tt, tt)))))),
      );
      recording = (
        λ _ _ x y. (same x.allowed y.allowed, refl),
        λ _ _ x y. (same x.allowed y.allowed, refl),
        λ _ _ x y. (same x.allowed y.allowed, refl),
        λ _ _ x y. (same x.allowed.0 y.allowed.0, λ i. (tt, (tt, (tt, (same x.allowed.1 y.allowed.1 i, tt))))),
      );
      made = λ _ _ x y. (same x.allowed.0 y.allowed.0, λ i. (tt, (tt, (same x.allowed.1 y.allowed.1 i, tt))));
      salvaging =
          λ _ _ x y. (
            told_once salvage_answer.told (λ a. a.number) (λ a. record { bytes = a.bytes; entries = a.entries; blocks = a.blocks }) (λ v. refl) (λ r. refl) (λ v. refl)
                x.allowed.0 y.allowed.0,
            λ i. (tt, (same x.allowed.1.0 y.allowed.1.0 i, (same x.allowed.1.1.0 y.allowed.1.1.0 i, (same x.allowed.1.1.1 y.allowed.1.1.1 i, tt)))),
          );
      text = (
        λ _ _ x y. let p = x.allowed in let q = y.allowed in (same p.0 q.0, λ i. (tt, (same p.1.0 q.1.0 i, (tt, tt)))),
        λ _ _ x y. let p = x.allowed in let q = y.allowed in (same p.0 q.0, λ i. (tt, (tt, (same p.1.0 q.1.0 i, (tt, tt))))),
        λ _ _ x y. (same x.allowed.0 y.allowed.0, λ i. (tt, (same x.allowed.1 y.allowed.1 i, tt))),
      );
      listing = (
        λ _ _ x y. (same x.allowed.0 y.allowed.0, λ i. (same x.allowed.1 y.allowed.1 i, tt)),
        λ _ _ x y. (same x.allowed.0 y.allowed.0, λ i. (tt, (same x.allowed.1 y.allowed.1 i, tt))),
        λ _ _ x y. (same x.allowed.0 y.allowed.0, λ i. (tt, (tt, (same x.allowed.1 y.allowed.1 i, tt)))),
      );
      report = (
        λ _ _ x y. (same x.allowed.0 y.allowed.0, λ i. (same x.allowed.1 y.allowed.1 i, tt)),
        λ _ _ x y. (same x.allowed.0 y.allowed.0, λ i. (tt, (tt, (tt, (same x.allowed.1 y.allowed.1 i, tt))))),
        λ _ _ x y. (same x.allowed.0 y.allowed.0, λ i. (tt, (same x.allowed.1 y.allowed.1 i, tt))),
      );
      c_numbers_is = (
        λ _ _ x y. (same x.allowed y.allowed, refl),
        λ _ _ x y. (same x.allowed y.allowed, refl),
        λ _ _ x y. (same x.allowed y.allowed, refl),
        λ _ _ x y. (same x.allowed y.allowed, refl),
        λ _ _ x y. (same x.allowed y.allowed, refl),
      );
      c_fields_is = (
        λ _ _ x y. (same x.allowed y.allowed, refl),
        λ _ _ x y. (same x.allowed.0 y.allowed.0, λ i. (tt, (tt, (tt, (same x.allowed.1 y.allowed.1 i, tt))))),
        λ _ _ x y. (same x.allowed.0 y.allowed.0, λ i. (tt, (tt, (same x.allowed.1 y.allowed.1 i, tt)))),
      );
      c_blocks_is = (
        λ _ _ x y. let p = x.allowed in let q = y.allowed in (same p.0 q.0, λ i. (tt, (same p.1.1.1.1 q.1.1.1.1 i, (same p.1.0 q.1.0 i, (same p.1.1.0 q.1.1.0 i, (same p.1.1.1.0 q.1.1.1.0 i, tt)))))),
        λ _ _ x y. let e = same x.allowed y.allowed in (λ i. (e i).number, λ i. (tt, ((e i).block, ((e i).version, ((e i).size, ((e i).records, ((e i).words, ((e i).bytes, tt)))))))),
        λ _ _ x y. let e = same x.allowed.0 y.allowed.0 in (λ i. (e i).number, λ i. (tt, (tt, (same x.allowed.1 y.allowed.1 i, ((e i).bytes, tt))))),
      );
      c_records_is = (
        λ _ _ x y. let e = same x.allowed y.allowed in (λ i. (e i).number, λ i. (tt, (tt, (tt, ((e i).start, ((e i).length, tt)))))),
        λ _ _ x y. let e = same x.allowed y.allowed in (λ i. (e i).number, λ i. (tt, (tt, (tt, ((e i).channel, ((e i).detector, tt)))))),
      );
      c_parity_is = (
        λ _ _ x y. (same x.allowed.0 y.allowed.0, λ i. (tt, (same x.allowed.1 y.allowed.1 i, tt))),
        λ _ _ x y. (same x.allowed.0 y.allowed.0, λ i. (tt, (same x.allowed.1 y.allowed.1 i, tt))),
      );
      c_tags_is = (
        λ _ _ x y. (same x.allowed y.allowed, refl),
        λ _ _ x y. (same x.allowed y.allowed, refl),
        λ _ _ x y. (same x.allowed.0 y.allowed.0, λ i. (tt, (tt, (same x.allowed.1 y.allowed.1 i, tt)))),
        λ _ _ x y. (same x.allowed.0 y.allowed.0, λ i. (tt, (tt, (same x.allowed.1 y.allowed.1 i, tt)))),
        λ _ _ x y. let e = same x.allowed y.allowed in (λ i. (e i).number, λ i. (tt, (tt, (tt, ((e i).ms, tt))))),
      );
      c_sounder_is = (
        λ _ _ x y. (
          same x.allowed.0 y.allowed.0,
          λ i. (tt, (tt, (same x.allowed.1.0 y.allowed.1.0 i, (same x.allowed.1.1 y.allowed.1.1 i, tt)))),
        ),
        λ _ _ x y. (
          same x.allowed.0 y.allowed.0,
          λ i. (tt, (tt, (tt, (tt, (same x.allowed.1.0 y.allowed.1.0 i, (same x.allowed.1.1 y.allowed.1.1 i, tt)))))),
        ),
      );
      c_watch_is = (
        λ _ _ x y. (same x.allowed.0 y.allowed.0, λ i. (tt, (same x.allowed.1 y.allowed.1 i, tt))),
        λ _ _ x y. let p = x.allowed in let q = y.allowed in (
          same p.0 q.0,
          λ i. (same p.1.1.1.1 q.1.1.1.1 i, (tt, (tt, (tt, (tt, (same p.1.0 q.1.0 i, (same p.1.1.0 q.1.1.0 i, (same p.1.1.1.0 q.1.1.1.0 i, tt)))))))),
        ),
      );
      c_recording_is = (
        λ _ _ x y. let p = x.allowed in let q = y.allowed in (same p.0 q.0, λ i. (tt, (tt, (same p.1.0 q.1.0 i, (same p.1.1.0 q.1.1.0 i, (same p.1.1.1 q.1.1.1 i, tt)))))),
        λ _ _ x y. let e = same x.allowed.0 y.allowed.0 in (λ i. (e i).answer, λ i. (tt, (tt, (tt, (same x.allowed.1 y.allowed.1 i, ((e i).seq, ((e i).block, ((e i).version, ((e i).words, tt))))))))),
        λ _ _ x y. let p = x.allowed in let q = y.allowed in (same p.0 q.0, λ i. (same p.1.1 q.1.1 i, (same p.1.0 q.1.0 i, tt))),
        λ _ _ x y. let p = x.allowed in let q = y.allowed in (same p.0 q.0, λ i. (tt, (tt, (tt, (tt, (tt, (same p.1.1 q.1.1 i, (same p.1.0 q.1.0 i, tt)))))))),
        λ _ _ x y. let p = x.allowed in let q = y.allowed in (same p.0 q.0, λ i. (tt, (tt, (same p.1.1 q.1.1 i, (same p.1.0 q.1.0 i, tt))))),
      );
      c_salvage_is =
          λ _ _ x y. let p = x.allowed in let q = y.allowed in let e = same p.0 q.0 in (λ i. (e i).number, λ i. (tt, (same p.1.0 q.1.0 i, (same p.1.1.0 q.1.1.0 i, (same p.1.1.1 q.1.1.1 i, ((e i).bytes, ((e i).entries, ((e i).blocks, tt))))))));
    }

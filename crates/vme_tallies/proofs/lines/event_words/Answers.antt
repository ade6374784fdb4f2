use Rattle.std.proofs.Common.{◌≡◌, ◌∙◌, sym, ap, ◌++◌, true, false, take, get_or, append_assoc, append-nil, codes, arith}
use Rattle.std.specs.Prelude.{◌==◌, filter}
use Rattle.std.specs.List.{flat_map}
use Rattle.std.proofs.lemmas.Bool.{ne_eqb}
use Rattle.std.proofs.lemmas.List.{take_all, take_more}
use Rattle.vme_events.specs.declared.events.Event.TheVariants as event
use Rattle.vme_events.specs.Events.{all_events, event_text}
use Rattle.vme_tallies.specs.Tally.{times_met}
use Rattle.vme_tallies.proofs.Words.{word_more}
use Rattle.vme_tallies.proofs.lines.event_words.Goals.{then-times_met-eq0, else-times_met-eq0}
use Rattle.vme_tallies.proofs.lines.event_words.Goals as goal

pub loop-event-preserved : goal.loop-event-preserved
unfolding all_events
loop-event-preserved c =
    let i = c.loop-event.event-index in
    let v = get_or all_events i event.GrantPassed in
    let old = c.loop-event.words.items in
    record {
      words = λ t is.
          let before = c.loop-event.invariant.words t is in
          let count = c.times_met.ensures t is in
          elim c.if-times_met-eq0.branch [
            | then-times_met-eq0 w ↦
                let none : (times_met v t == 0) ≡ true = ap (λ m. m == 0) (sym count ∙ w.if-times_met-eq0.true) in
                let told = ap (λ l. l.items) w.words-is ∙ w.push-then-times_met-eq0.ensures.items ∙ ap (λ l. w.push.new.line.items ++ l) (w.as_bytes.ensures.value ∙ w.name.ensures.text) ∙ ap (λ l. l ++ event_text v) w.push.ensures.items ∙ append_assoc old (codes " ") (event_text v) in
                word_more (λ v. codes " " ++ event_text v) (λ v. times_met v t == 0) (take i all_events) v old c.if-times_met-eq0.words.items true none before told
                ∙ ap (λ l. flat_map (λ v. codes " " ++ event_text v) (filter (λ v. times_met v t == 0) l)) (sym (take_more all_events i event.GrantPassed c.loop-event-test.true))
            | else-times_met-eq0 w ↦
                let some : (times_met v t == 0) ≡ false = ne_eqb (times_met v t) 0 (λ e. w.if-times_met-eq0.false (count ∙ e)) in
                let told = ap (λ l. l.items) w.words-is ∙ sym (append-nil old) in
                word_more (λ v. codes " " ++ event_text v) (λ v. times_met v t == 0) (take i all_events) v old c.if-times_met-eq0.words.items false some before told
                ∙ ap (λ l. flat_map (λ v. codes " " ++ event_text v) (filter (λ v. times_met v t == 0) l)) (sym (take_more all_events i event.GrantPassed c.loop-event-test.true))
          ];
      room =
          let before = c.loop-event.invariant.room in
          elim c.if-times_met-eq0.branch [
            | then-times_met-eq0 w ↦ let first = w.push.ensures.len in let second = rw w.as_bytes.ensures.value at w.push-then-times_met-eq0.ensures.len in let short = w.name.ensures.short in rw w.words-is (omega (arith, before, first, second, short))
            | else-times_met-eq0 w ↦ rw w.words-is (omega (arith, before))
          ];
    }

pub returns-clause-words : goal.returns-clause-words
unfolding all_events
returns-clause-words c = λ t is.
    c.loop-event.invariant.words t is ∙ ap (λ l. flat_map (λ v. codes " " ++ event_text v) (filter (λ v. times_met v t == 0) l)) (take_all c.loop-event.event-index all_events c.loop-event-test.false)

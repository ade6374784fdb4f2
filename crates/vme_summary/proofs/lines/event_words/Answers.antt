use Rattle.std.proofs.Common.{rules, ◌≡◌, ◌≢◌, ◌∙◌, sym, ap, ◌++◌, true, false, take, get_or, append_assoc, append-nil, codes, arith}
use Rattle.std.specs.Prelude.{◌==◌, filter}
use Rattle.std.specs.List.{flat_map}
use Rattle.std.proofs.lemmas.Bool.{ne_eqb}
use Rattle.std.proofs.lemmas.List.{take_all, take_more}
use Rattle.vme_goals.specs.declared.events.Event.TheVariants as event
use Rattle.vme_goals.specs.Events.{all_events, event_index, event_text}
use Rattle.vme_summary.proofs.Words.{word_more}
use Rattle.vme_summary.proofs.lines.event_words.Goals.{then-times-index-eq0, else-times-index-eq0}
use Rattle.vme_summary.proofs.lines.event_words.Goals as goal

pub loop-event-preserved : goal.loop-event-preserved
unfolding all_events
loop-event-preserved c =
    let i = c.loop-event.event-index in
    let v = get_or all_events i event.GrantPassed in
    let old = c.loop-event.words.items in
    let times = c.args.times.now in
    record {
      words = elim c.if-times-index-eq0.branch [
        | then-times-index-eq0 w ↦
            let is : get_or times (event_index v) 0 ≡ 0 = search rules in
            let none : (get_or times (event_index v) 0 == 0) ≡ true = ap (λ m. m == 0) is in
            let known = ap (λ l. l.items) w.words-is ∙ w.push-then-times-index-eq0.ensures.items ∙ ap (λ l. w.push.new.line.items ++ l) (w.as_bytes.ensures.value ∙ w.name.ensures.text)
            ∙ ap (λ l. l ++ event_text v) w.push.ensures.items ∙ append_assoc old (codes " ") (event_text v) in
            word_more (λ v. codes " " ++ event_text v) (λ v. get_or times (event_index v) 0 == 0)
            (take i all_events) v old c.if-times-index-eq0.words.items true none c.loop-event.invariant.words known
            ∙ ap (λ l. flat_map (λ v. codes " " ++ event_text v) (filter (λ v. get_or times (event_index v) 0 == 0) l)) (sym (take_more all_events i event.GrantPassed c.loop-event-test.true))
        | else-times-index-eq0 w ↦
            let other : get_or times (event_index v) 0 ≢ 0 = search rules in
            let some : (get_or times (event_index v) 0 == 0) ≡ false = ne_eqb (get_or times (event_index v) 0) 0 other in
            let known = ap (λ l. l.items) w.words-is ∙ sym (append-nil old) in
            word_more (λ v. codes " " ++ event_text v) (λ v. get_or times (event_index v) 0 == 0)
            (take i all_events) v old c.if-times-index-eq0.words.items false some c.loop-event.invariant.words known
            ∙ ap (λ l. flat_map (λ v. codes " " ++ event_text v) (filter (λ v. get_or times (event_index v) 0 == 0) l)) (sym (take_more all_events i event.GrantPassed c.loop-event-test.true))
      ];
      room =
          let before = c.loop-event.invariant.room in
          elim c.if-times-index-eq0.branch [
            | then-times-index-eq0 w ↦
                let first = w.push.ensures.len in
                let second = rw w.as_bytes.ensures.value at w.push-then-times-index-eq0.ensures.len in
                let short = w.name.ensures.short in
                rw w.words-is (omega (arith, before, first, second, short))
            | else-times-index-eq0 w ↦ rw w.words-is (omega (arith, before))
          ];
    }

pub returns-clause-words : goal.returns-clause-words
unfolding all_events
returns-clause-words c =
    c.loop-event.invariant.words ∙ ap (λ l. flat_map (λ v. codes " " ++ event_text v) (filter (λ v. get_or c.args.times.now (event_index v) 0 == 0) l))
    (take_all c.loop-event.event-index all_events c.loop-event-test.false)

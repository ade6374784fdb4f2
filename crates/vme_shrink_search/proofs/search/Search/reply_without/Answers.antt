use Rattle.std.proofs.Common.{◌≡◌, ◌∙◌, drop, take, ap, refl, subst, sym}
use Rattle.std.proofs.lemmas.List.{take_rest}
use Rattle.vme_model.specs.Verdict.{State, kept}
use Rattle.vme_shrink_search.specs.Leading.{LeadsTo}
use Rattle.vme_shrink_search.specs.Searching.{start}
use Rattle.vme_shrink_search.proofs.Searches.{leads_again, list_again, start_again, reply_again}
use Rattle.vme_shrink_search.proofs.search.Search.reply_without.Goals as goal

pub reply_behind-requires : goal.reply_behind-requires
reply_behind-requires c =
    let s = c.args.self.now in
    let b : State = start s in
    let front : c.go_on.new.bus ≡ kept b (take c.args.from s.list.items) =
    c.in_ok-go_on.ensures.state
    ∙ ap (λ (x : State). kept x (take c.args.from c.deref.result.now)) c.restart.ensures
    ∙ ap (kept b) (ap (take c.args.from) c.deref.ensures.value) in
    let rest : c.go_on-2.new.bus ≡ kept c.go_on.new.bus (drop c.args.to s.list.items) =
    c.in_ok-go_on-2.ensures.state
    ∙ ap (kept c.go_on.new.bus) (take_rest c.deref-2.result.now c.args.to
    ∙ ap (drop c.args.to) c.deref-2.ensures.value) in
    subst (λ l. LeadsTo l c.go_on-2.new.bus) (sym c.deref-3.ensures.value)
    (leads_again b c.go_on-2.new.bus c.go_on.new.bus s.list.items c.go_on-2.new.made.items
    c.args.from c.args.to refl refl front rest c.in_ok-go_on-2.ensures.made)

pub returns-clause-reply : goal.returns-clause-reply
returns-clause-reply c =
    let s = c.args.self.now in
    let b : State = start s in
    let front : c.go_on.new.bus ≡ kept b (take c.args.from s.list.items) =
    c.in_ok-go_on.ensures.state
    ∙ ap (λ (x : State). kept x (take c.args.from c.deref.result.now)) c.restart.ensures
    ∙ ap (kept b) (ap (take c.args.from) c.deref.ensures.value) in
    let rest : c.go_on-2.new.bus ≡ kept c.go_on.new.bus (drop c.args.to s.list.items) =
    c.in_ok-go_on-2.ensures.state
    ∙ ap (kept c.go_on.new.bus) (take_rest c.deref-2.result.now c.args.to
    ∙ ap (drop c.args.to) c.deref-2.ensures.value) in
    reply_again b c.go_on-2.new.bus c.go_on.new.bus s.list.items s.edge c.args.from c.args.to
    c.reply_behind.result refl front rest c.reply_behind.ensures.reply

pub returns-clause-other : goal.returns-clause-other
returns-clause-other c =
    let s = c.args.self.now in
    let b : State = start s in
    let front : c.go_on.new.bus ≡ kept b (take c.args.from s.list.items) =
    c.in_ok-go_on.ensures.state
    ∙ ap (λ (x : State). kept x (take c.args.from c.deref.result.now)) c.restart.ensures
    ∙ ap (kept b) (ap (take c.args.from) c.deref.ensures.value) in
    let rest : c.go_on-2.new.bus ≡ kept c.go_on.new.bus (drop c.args.to s.list.items) =
    c.in_ok-go_on-2.ensures.state
    ∙ ap (kept c.go_on.new.bus) (take_rest c.deref-2.result.now c.args.to
    ∙ ap (drop c.args.to) c.deref-2.ensures.value) in
    list_again b c.go_on-2.new.bus c.go_on.new.bus s.list.items c.go_on-2.new.made.items
    c.args.from c.args.to front rest c.in_ok-go_on-2.ensures.made

pub returns-clause-start : goal.returns-clause-start
returns-clause-start c =
    let s = c.args.self.now in
    let b : State = start s in
    let front : c.go_on.new.bus ≡ kept b (take c.args.from s.list.items) =
    c.in_ok-go_on.ensures.state
    ∙ ap (λ (x : State). kept x (take c.args.from c.deref.result.now)) c.restart.ensures
    ∙ ap (kept b) (ap (take c.args.from) c.deref.ensures.value) in
    let rest : c.go_on-2.new.bus ≡ kept c.go_on.new.bus (drop c.args.to s.list.items) =
    c.in_ok-go_on-2.ensures.state
    ∙ ap (kept c.go_on.new.bus) (take_rest c.deref-2.result.now c.args.to
    ∙ ap (drop c.args.to) c.deref-2.ensures.value) in
    start_again b c.reply_behind.new.bus (take c.args.from s.list.items) (drop c.args.to s.list.items)
    c.go_on.new.bus refl front (c.reply_behind.ensures.state ∙ rest)

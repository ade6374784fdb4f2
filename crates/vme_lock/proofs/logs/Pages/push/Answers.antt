use Rattle.std.proofs.Common.{◌<◌, ◌-◌, ◌++◌, ◌∷◌, [], arith, sym, ap, ◌∙◌, set}
use Rattle.std.specs.Prelude.{vec_len}
use Rattle.vme_lock.specs.Logs.{edges_in, room_of}
use Rattle.vme_lock.proofs.OneEdge.{never}
use Rattle.vme_lock.proofs.LogPages.{fits, some_page, joined-set}
use Rattle.vme_lock.proofs.logs.Pages.push.Goals as goal
use Rattle.vme_lock.proofs.logs.Pages.push.Goals.{in-Some, in-None}

pub push-requires-clause-room : goal.push-requires-clause-room
push-requires-clause-room c =
    let pages = c.self.inside.pages in
    let room : 0 < room_of pages.items = omega (arith, c.requires.room, ap (λ f. f.room) c.self.view_is) in
    let some = some_page pages.items room in
    fits pages.items (vec_len pages) c.in-Some.page.now room (omega (arith, pages.ok)) (omega (arith, some, pages.ok)) c.in-Some.ensures.value

pub returns : goal.returns
returns c =
    let pages = c.self.inside.pages in
    let room : 0 < room_of pages.items = omega (arith, c.requires.room, ap (λ f. f.room) c.self.view_is) in
    let some = some_page pages.items room in
    let n = vec_len pages - 1 in
    elim c.match-last_mut.branch [
      | in-Some w ↦
          rw w.self-inside-is (ap (λ p. edges_in (set pages.items n p)) w.push.ensures
          ∙ (joined-set pages.items n w.in-Some.page.now c.args.edge (omega (arith, some, pages.ok)) (sym w.in-Some.ensures.value)
          ∙ ap (λ f. f.edges ++ c.args.edge ∷ []) c.self.view_is))
      | in-None w ↦ absurd (never (sym (w.in-None.ensures.variant.1 (omega (arith, some, pages.ok)))))
    ]

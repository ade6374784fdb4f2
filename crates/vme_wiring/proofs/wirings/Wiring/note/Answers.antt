-- The board in the driver's place is that of the plan, and its edge is one that the wiring can
-- take.
use Rattle.std.proofs.Common.{◌∙◌, sym, ap, subst}
use Rattle.std.specs.Prelude.{option_map}
use Rattle.vme_model.specs.declared.boards.Row.{Row}
use Rattle.vme_model.specs.declared.pins.Pins.{Pins}
use Rattle.vme_wiring.specs.Boards.{parts_of}
use Rattle.vme_wiring.specs.Wired.{CanNote}
use Rattle.vme_histories.proofs.AllowedBoards.{stands}
use Rattle.vme_wiring.proofs.LongerHistory.{noted_by_board, noted_by_controller, line_can, chain_can, head_can, placed_board}
use Rattle.vme_histories.proofs.Drivers.{standing}
use Rattle.vme_wiring.proofs.wirings.Wiring.note.Goals as goal

pub note_controller-requires : goal.note_controller-requires
note_controller-requires c =
    let t = c.requires.allowed in
    record { head = head_can t.version t.plan t.history c.args.edge c.args.self.now t.is_wiring t.allowed c.in-Controller.is }

pub note_board-requires-clause-slot : goal.note_board-requires-clause-slot
note_board-requires-clause-slot c =
    let t = c.requires.allowed in
    let k = standing t.version t.plan t.history c.in-Slot.slot c.args.edge t.allowed c.in-Slot.is in
    (stands t.plan c.in-Slot.slot k.row t.is_wiring.accepted k.found).near

pub note_board-requires-clause-board : goal.note_board-requires-clause-board
note_board-requires-clause-board c b here =
    let t = c.requires.allowed in
    let e = c.args.edge in
    let w = c.args.self.now in
    let k = placed_board t.version t.plan t.history c.in-Slot.slot b w t.is_wiring (sym here) in
    subst (λ (r : Row). CanNote w r e) (sym k.same_row) (record {
      request_level = k.stands.request;
      interrupt_level = k.stands.interrupt;
      line = line_can t.version t.plan t.history c.in-Slot.slot k.row e w t.is_wiring t.allowed c.in-Slot.is k.found;
      chain = chain_can t.version t.plan t.history c.in-Slot.slot k.row e w t.is_wiring t.allowed c.in-Slot.is k.found;
    })

pub returns-in-Controller : goal.returns-in-Controller
returns-in-Controller c version p h is allowed =
    let n = c.note_controller.ensures in
    noted_by_controller version p h c.args.edge c.args.self.now c.note_controller.new.self is allowed c.in-Controller.is (record {
      rules = n.version;
      slots = n.slots;
      boards = n.boards;
      policy = n.policy;
      arbiter = n.arbiter p.arbiter version h;
      lines = n.lines;
      chains = n.chains;
      shared = n.shared;
      addressing = n.addressing;
    })

pub returns-in-Slot : goal.returns-in-Slot
returns-in-Slot c version p h is allowed =
    let n = c.note_board.ensures in
    let s = c.in-Slot.slot in
    let k = standing version p h s c.args.edge allowed c.in-Slot.is in
    let b = parts_of version p h k.row in
    let here = is.boards s ∙ ap (option_map (parts_of version p h)) k.found in
    noted_by_board version p h s k.row c.args.edge c.args.self.now c.note_board.new.self is allowed c.in-Slot.is k.found (record {
      rules = n.version;
      slots = n.slots;
      boards = n.boards version p h k.row here (ap (λ (x : Pins). x.shown) is.shared);
      arbiter = n.arbiter;
      lines = n.lines b here;
      chains = n.chains b here;
      shared = n.shared b here;
      addressing = n.addressing b here;
    })

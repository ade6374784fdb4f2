use Rattle.std.proofs.Common.{sym, ◌∙◌, ap}
use Rattle.vme_captures.specs.Words.{entry_of}
use Rattle.vme_captures.proofs.Spelled.{entry_formed}
use Rattle.vme_captures.proofs.reader.Reader.take_entry.Goals as goal

pub fault-requires : goal.fault-requires
fault-requires c =
    entry_formed c.args.self.now.part.items c.in-Some.entry
    (ap entry_of (sym c.as_slice.ensures.value) ∙ sym c.entry_of.ensures ∙ c.in-Some.is)

pub note-requires : goal.note-requires
note-requires c =
    entry_formed c.args.self.now.part.items c.in-Some.entry
    (ap entry_of (sym c.as_slice.ensures.value) ∙ sym c.entry_of.ensures ∙ c.in-Some.is)

pub returns : goal.returns
returns c = record {
  said = ap entry_of (sym c.as_slice.ensures.value) ∙ sym c.entry_of.ensures ∙ c.in-Some.is;
  fault = sym c.fault.ensures ∙ c.in_default-fault.is;
  noted = c.note.new.self;
  notes = c.in_ok-note.ensures;
  goes_on = c.go_on.ensures;
}

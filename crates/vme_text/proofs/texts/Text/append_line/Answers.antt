use Rattle.std.proofs.Common.{◌≡◌, ◌∙◌, ℕ, List, ◌+◌, ◌-◌, ◌≤◌, ◌++◌, ◌∷◌, length, take, slice_set, ap, sym, arith}
use Rattle.std.proofs.lemmas.List.{length-take-le}
use borrow.Rule.Slice.PartMut.{put_mid}
use Rattle.vme_text.proofs.Copied.{line_of_parts}
use Rattle.vme_text.proofs.texts.Text.append_line.Goals as goal

pub returns : goal.returns
returns c =
    let within : c.self.inside.len ≤ length c.self.inside.bytes = omega (arith, c.self.told, c.self.invariant) in
    let held : length c.args.self.now ≡ c.self.inside.len = sym (ap length c.self.view_is) ∙ length-take-le c.self.inside.len c.self.inside.bytes within in
    let room : c.self.inside.len + 33 ≤ length c.self.inside.bytes = omega (arith, c.self.told, c.requires.room) in
    let whole : length c.copy_from_slice-2.new.self ≡ 8 = omega arith in
    let end = c.self.inside.len + c.args.many in
    let front : List ℕ = slice_set (put_mid c.self.inside.len (c.self.inside.len + 24 - c.self.inside.len) c.self.inside.bytes c.copy_from_slice.new.self) end c.args.digit in
    let sum : c.self.inside.len + (c.args.many + 1 + c.args.size) ≡ end + 1 + c.args.size = omega arith in
    ap (λ k. take k (put_mid (end + 1) (end + 1 + 8 - (end + 1)) front c.copy_from_slice-2.new.self)) sum
    ∙ line_of_parts c.self.inside.len c.args.many c.args.size (c.self.inside.len + 24 - c.self.inside.len) (c.self.inside.len + c.args.many + 1 + 8 - (c.self.inside.len + c.args.many + 1))
    c.args.digit c.self.inside.bytes c.args.row.now c.copy_from_slice.new.self c.args.tail c.copy_from_slice-2.new.self (omega arith) (omega arith) c.requires.many c.requires.size c.requires.row
    whole room c.copy_from_slice.ensures.after c.copy_from_slice-2.ensures.after
    ∙ ap (λ l. l ++ (take c.args.many c.args.row.now ++ (c.args.digit ∷ take c.args.size c.args.tail))) c.self.view_is

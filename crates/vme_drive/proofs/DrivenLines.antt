-- The lines of a drive, written as its edges are made.
use Rattle.std.proofs.Common.{◌≡◌, ℕ, zero, suc, ◌+◌, ◌%◌, List, [], ◌∷◌, ◌++◌, length, Bool, true, false, Option, Some, Result, Ok, Err, OnOk, OnErr, IfErr, refl, sym, ◌∙◌, ap, subst, slice_get, ◌==◌, if◌then◌else◌, ◌≢◌, ne_eqb, eqb-true}
use Rattle.std.specs.Option.{option_map_or}
use Rattle.std.specs.Io.KnownBytes.{Appends, Keeps}
use Rattle.std.proofs.KnownBytes.{Appends-trans, Appends-kept}
use Rattle.vme_model.specs.declared.signals.Driver.{Driver}
use Rattle.vme_model.specs.declared.signals.Edge.{Edge}
use Rattle.vme_model.specs.declared.signals.Driver.TheVariants.{Controller}
use Rattle.vme_model.specs.Plan.{Plan, drivers}
use Rattle.vme_model.specs.History.{in_order}
use Rattle.vme_model.specs.Verdict.{State, made}
use Rattle.vme_model.specs.Offers.{offered, turn, turns, rounds_from, rounds}
use Rattle.vme_model.specs.Text.{header, text}
use Rattle.vme_trace.specs.declared.Fault.{Fault}
use Rattle.vme_trace.specs.declared.Fault.TheVariants.{Write}
use Rattle.vme_trace.specs.Writing.{AppendsFront, edge_line}
use Rattle.vme_reading.specs.Texts.{HandsOn, IsListed, KeepsListed, ListsOn, lines_made, trace_made}
use Rattle.vme_drive.specs.Driving.{boards}
use Rattle.vme_reading.proofs.WrittenLines.{front_of_more, front_behind}
use Rattle.vme_drive.proofs.DriveRounds.{later, same_length, rounds_later}
use Rattle.vme_drive.proofs.ListedLines.{IsBefore, itself, before_both, before_made, before_if, front_later, listed_edge, listed_part, lines_cut, lines_written, lines_part}

-- ---- edges are only added

pub before_turn : (r n : ℕ) (b : State) (d : Driver) → IsBefore b (turn r n b d)
before_turn r n b d = before_if (length b.history == n) b _ (before_made b (slice_get (offered b d) (r % length (offered b d))))

pub before_turns : (r n : ℕ) (b : State) (ds : List Driver) → IsBefore b (turns r n b ds)
before_turns r n b [] = itself b
before_turns r n b (d ∷ ds) = before_both b (turn r n b d) (turns r n (turn r n b d) ds) (before_turn r n b d) (before_turns r n (turn r n b d) ds)

before_rounds : (left r n : ℕ) (b : State) → IsBefore b (rounds_from left r n b)
before_rounds zero r n b = itself b
before_rounds (suc left) r n b =
    let next = turns r n b (drivers b.plan) in
    before_if (length next.history == length b.history) b (rounds_from left (r + 1) n next)
    (before_both b next (rounds_from left (r + 1) n next) (before_turns r n b (drivers b.plan)) (before_rounds left (r + 1) n next))

-- ---- a turn

turn_made : (t : Bool) (b : State) (o : Option Edge) (e : Edge) → t ≡ false → o ≡ Some e → (if t then b else option_map_or (made b) o b) ≡ made b e
turn_made t b o e other is = rw (other, is) refl

module _ (r n : ℕ) (b now : State) (d : Driver) (old new : Option (List ℕ)) (held left : List ℕ) (got : Option Edge)
    (is : got ≡ slice_get (offered b d) (r % length (offered b d))) (took : now ≡ option_map_or (made b) got b) where
  -- the line of the offer is put to the text
  pub turn_listed : (e : Edge) → got ≡ Some e → length b.history ≢ n → (result : Result (Unit {0}) Fault)
      → OnOk result (HandsOn old new (held ++ edge_line e) left) → OnErr result (AppendsFront old new held) → IfErr result (λ f. f ≡ Write)
      → ListsOn b held old new (turn r n b d) now left result
  turn_listed e some more (Ok u) ok front fault =
      let here : now ≡ made b e = took ∙ ap (λ (o : Option Edge). option_map_or (made b) o b) some in (
        here ∙ sym (turn_made (length b.history == n) b _ e (ne_eqb (length b.history) n more) (sym is ∙ some)),
        λ first listed. subst (λ (s : State). IsListed first new left (lines_made s)) (sym here) (listed_edge first old new held b listed e left ok),
      )
  turn_listed e some more (Err f) ok front fault =
      (fault, λ first listed. front_later first new b (turn r n b d) (before_turn r n b d) (listed_part first old new held b listed front))

-- ---- turns and rounds

-- what is made and listed, and more behind it
pub listed_both : {A : Type 0} (b b₁ b₂ end all : State) (held held₁ held₂ : List ℕ) (old mid new : Option (List ℕ)) → KeepsListed b held old mid b₁ held₁ → end ≡ all
    → (result : Result A Fault)
    → ListsOn b₁ held₁ mid new end b₂ held₂ result → ListsOn b held old new all b₂ held₂ result
listed_both b b₁ b₂ end all held held₁ held₂ old mid new keeps same (Ok a) w = (w.0 ∙ same, λ first listed. w.1 first (keeps first listed))
listed_both b b₁ b₂ end all held held₁ held₂ old mid new keeps same (Err f) w =
    (w.0, λ first listed. subst (λ (s : State). AppendsFront first new (lines_made s)) same (w.1 first (keeps first listed)))

module _ (r n : ℕ) (b : State) where
  -- the controller's turn, and then those of the boards
  pub controller_first : (now : State) → now ≡ turn r n b Controller → turns r n now (boards now.plan) ≡ turns r n b (drivers b.plan)
  controller_first now is =
      let plan : now.plan ≡ b.plan = ap (λ (s : State). s.plan) is ∙ (later r n b (Controller ∷ [])).plan in
      ap (λ (p : Plan). turns r n now (boards p)) plan ∙ ap (λ (s : State). turns r n s (boards b.plan)) is

  -- the lines up to the controller's turn
  pub controller_front : (first new : Option (List ℕ)) → AppendsFront first new (lines_made (turn r n b Controller)) → AppendsFront first new (lines_made (turns r n b (drivers b.plan)))
  controller_front first new w =
      front_later first new (turn r n b Controller) (turns r n (turn r n b Controller) (boards b.plan)) (before_turns r n (turn r n b Controller) (boards b.plan)) w

before_round_by : (t : Bool) (left r n : ℕ) (b : State) → (length (turns r n b (drivers b.plan)).history == length b.history) ≡ t
    → IsBefore (turns r n b (drivers b.plan)) (if t then b else rounds_from left (r + 1) n (turns r n b (drivers b.plan)))
before_round_by true left r n b e =
    let same : turns r n b (drivers b.plan) ≡ b = same_length b (turns r n b (drivers b.plan)) (later r n b (drivers b.plan)) (eqb-true _ _ e) in
    ([], sym (ap (λ (s : State). s.history) same))
before_round_by false left r n b e = before_rounds left (r + 1) n (turns r n b (drivers b.plan))

-- a round that is not the last is within all rounds
before_round : (left r n : ℕ) (b : State) → IsBefore (turns r n b (drivers b.plan)) (rounds_from (suc left) r n b)
before_round left r n b = before_round_by (length (turns r n b (drivers b.plan)).history == length b.history) left r n b refl

-- the lines up to a round that was cut off
pub rounds_front : (left r n : ℕ) (b end : State) → end ≡ rounds_from (suc left) r n b → (first new : Option (List ℕ))
    → AppendsFront first new (lines_made (turns r n b (drivers b.plan))) → AppendsFront first new (lines_made end)
rounds_front left r n b end is first new w =
    subst (λ (s : State). AppendsFront first new (lines_made s)) (sym is)
    (front_later first new (turns r n b (drivers b.plan)) (rounds_from (suc left) r n b) (before_round left r n b) w)

-- ---- the trace

-- the trace of all rounds names the version that they began with
trace_is : (b : State) (n : ℕ) → trace_made (rounds b n) ≡ (header b.version ++ 10 ∷ []) ++ lines_made (rounds b n)
trace_is b n = ap (λ v. text v (in_order (rounds b n).history)) (rounds_later n 0 n b).version

-- from its header line on
module _ (b : State) (n : ℕ) (old headed : Option (List ℕ)) (header_line : List ℕ) (is : header_line ≡ header b.version ++ 10 ∷ []) where
  behind : (new : Option (List ℕ)) → Appends old headed header_line → Appends headed new (lines_made (rounds b n)) → Appends old new (trace_made (rounds b n))
  behind new h w = subst (Appends old new) (ap (λ l. l ++ lines_made (rounds b n)) is ∙ sym (trace_is b n)) (Appends-trans old headed new header_line (lines_made (rounds b n)) h w)

  part_behind : (new : Option (List ℕ)) → Appends old headed header_line → AppendsFront headed new (lines_made (rounds b n)) → AppendsFront old new (trace_made (rounds b n))
  part_behind new h w = subst (AppendsFront old new) (ap (λ l. l ++ lines_made (rounds b n)) is ∙ sym (trace_is b n)) (front_behind old headed new header_line (lines_made (rounds b n)) h w)

  -- the header line could not be written
  pub unheaded : AppendsFront old headed header_line → AppendsFront old headed (trace_made (rounds b n))
  unheaded h = subst (AppendsFront old headed) (ap (λ l. l ++ lines_made (rounds b n)) is ∙ sym (trace_is b n)) (front_of_more old headed header_line (lines_made (rounds b n)) h)

  module _ (wrote : Appends old headed header_line) (held : List ℕ) (empty : held ≡ []) (start : b.history ≡ []) (listed : Option (List ℕ)) (now : State) (left : List ℕ) where
    -- the rounds were cut off
    pub cut_off : ((first : Option (List ℕ)) → IsListed first headed held (lines_made b) → AppendsFront first listed (lines_made (rounds b n)))
        → AppendsFront old listed (trace_made (rounds b n))
    cut_off h = part_behind listed wrote (lines_cut headed listed held left b now (rounds b n) empty start h)

    module _ (is_end : now ≡ rounds b n) (keeps : KeepsListed b held headed listed now left) (new : Option (List ℕ)) where
      -- what was held behind them is written
      pub all_written : Appends listed new left → Appends old new (trace_made (rounds b n))
      all_written w = behind new wrote (lines_written headed listed held left b now (rounds b n) empty start is_end keeps new w)

      -- what was held could not be written
      pub part_written : AppendsFront listed new left → AppendsFront old new (trace_made (rounds b n))
      part_written w = part_behind new wrote (lines_part headed listed held left b now (rounds b n) empty start is_end keeps new w)

pub on_kept : {E A : Type 0} (r : Result A E) (a b c : Option (List ℕ)) (x : List ℕ) → Appends a b x → Keeps b c → OnOk r (Appends a c x)
on_kept (Ok u) a b c x w k = Appends-kept a b c x w k
on_kept (Err e) a b c x w k = tt

-- The lines of a drive, written as its edges are made.
use Rattle.std.proofs.Common.{◌≡◌, ℕ, zero, suc, ◌+◌, ◌<◌, ◌%◌, get_or, List, [], ◌∷◌, ◌++◌, length, Bool, true, false, drop, Option, Some, None, Result, Ok, Err, OnOk, OnErr, IfErr, refl, sym, ◌∙◌, ap, append_assoc, subst, slice_get, ◌==◌, if◌then◌else◌, ◌≢◌, ne_eqb, eqb-true}
use Rattle.std.specs.Option.{option_map_or}
use Rattle.std.proofs.lemmas.List.{reverse-append, drop_more}
use Rattle.std.specs.Io.KnownBytes.{Appends, Keeps}
use Rattle.std.proofs.KnownBytes.{Appends-trans, Appends-nil, Appends-kept}
use Rattle.vme_model.specs.declared.signals.Driver.{Driver}
use Rattle.vme_model.specs.declared.signals.Edge.{Edge}
use Rattle.vme_model.specs.Plan.{drivers}
use Rattle.vme_model.specs.History.{in_order}
use Rattle.vme_model.specs.Verdict.{State, made}
use Rattle.vme_model.specs.Offers.{offered, turn, turns, rounds_from, rounds}
use Rattle.vme_model.specs.Text.{header, edge_lines, text}
use Rattle.vme_trace.specs.declared.Fault.{Fault}
use Rattle.vme_trace.specs.declared.Fault.TheVariants.{Write}
use Rattle.vme_trace.specs.Writing.{AppendsFront, edge_line}
use Rattle.vme_engines.specs.Texts.{HandsOn, IsListed, ListsOn, lines_made, trace_made}
use Rattle.vme_engines.proofs.WrittenLines.{front_of_more, front_behind, line_alone, lines_behind}
use Rattle.vme_engines.proofs.DriveRounds.{later, same_length, rounds_later}

-- ---- edges are only added

-- the edges of the first are those of the second, but for the last of these
abbrev IsBefore : State → State → Type 0
IsBefore b c = (more : List Edge) × (c.history ≡ more ++ b.history)

itself : (b : State) → IsBefore b b
itself b = ([], refl)

before_both : (b c d : State) → IsBefore b c → IsBefore c d → IsBefore b d
before_both b c d f g = (g.0 ++ f.0, g.1 ∙ ap (λ h. g.0 ++ h) f.1 ∙ sym (append_assoc g.0 f.0 b.history))

before_made : (b : State) (o : Option Edge) → IsBefore b (option_map_or (made b) o b)
before_made b None = itself b
before_made b (Some e) = (e ∷ [], refl)

before_if : (t : Bool) (b c : State) → IsBefore b c → IsBefore b (if t then b else c)
before_if true b c h = itself b
before_if false b c h = h

before_turn : (r n : ℕ) (b : State) (d : Driver) → IsBefore b (turn r n b d)
before_turn r n b d = before_if (length b.history == n) b _ (before_made b (slice_get (offered b d) (r % length (offered b d))))

before_turns : (r n : ℕ) (b : State) (ds : List Driver) → IsBefore b (turns r n b ds)
before_turns r n b [] = itself b
before_turns r n b (d ∷ ds) = before_both b (turn r n b d) (turns r n (turn r n b d) ds) (before_turn r n b d) (before_turns r n (turn r n b d) ds)

before_rounds : (left r n : ℕ) (b : State) → IsBefore b (rounds_from left r n b)
before_rounds zero r n b = itself b
before_rounds (suc left) r n b =
    let next = turns r n b (drivers b.plan) in
    before_if (length next.history == length b.history) b (rounds_from left (r + 1) n next)
    (before_both b next (rounds_from left (r + 1) n next) (before_turns r n b (drivers b.plan)) (before_rounds left (r + 1) n next))

-- ---- the lines of edges that are added

lines_of_both : (more h : List Edge) → edge_lines (in_order (more ++ h)) ≡ edge_lines (in_order h) ++ edge_lines (in_order more)
lines_of_both more h = ap (λ (es : List Edge). edge_lines es) (reverse-append more h) ∙ lines_behind (in_order h) (in_order more)

-- a front of the lines is one of those with more behind them
front_later : (a c : Option (List ℕ)) (s t : State) → IsBefore s t → AppendsFront a c (lines_made s) → AppendsFront a c (lines_made t)
front_later a c s t later w =
    subst (AppendsFront a c) (sym (ap (λ (h : List Edge). edge_lines (in_order h)) later.1 ∙ lines_of_both later.0 s.history)) (front_of_more a c (lines_made s) (edge_lines (in_order later.0)) w)

module _ (first old new : Option (List ℕ)) (held : List ℕ) (b : State) (listed : IsListed first old held (lines_made b)) where
  -- the line of one more edge
  listed_edge : (e : Edge) (left : List ℕ) → HandsOn old new (held ++ edge_line e) left → IsListed first new left (lines_made (made b e))
  listed_edge e left w = (
    listed.0 ++ w.0,
    lines_of_both (e ∷ []) b.history
        ∙ ap (λ l. lines_made b ++ l) (sym (line_alone e))
        ∙ ap (λ l. l ++ edge_line e) listed.1
        ∙ append_assoc listed.0 held (edge_line e)
        ∙ ap (λ l. listed.0 ++ l) w.1
        ∙ sym (append_assoc listed.0 w.0 left),
    Appends-trans first old new listed.0 w.0 listed.2 w.2,
  )

  -- what was held is written
  listed_all : Appends old new held → Appends first new (lines_made b)
  listed_all w = subst (Appends first new) (sym listed.1) (Appends-trans first old new listed.0 held listed.2 w)

  -- what was held could not be written
  listed_part : AppendsFront old new held → AppendsFront first new (lines_made b)
  listed_part w = subst (AppendsFront first new) (sym listed.1) (front_behind first old new listed.0 held listed.2 w)

-- before the first edge nothing is held
none_listed : (a : Option (List ℕ)) (held : List ℕ) (b : State) → held ≡ [] → b.history ≡ [] → IsListed a a held (lines_made b)
none_listed a held b empty start = ([], ap (λ (h : List Edge). edge_lines (in_order h)) start ∙ sym empty, Appends-nil a)

-- ---- a turn

turn_made : (t : Bool) (b : State) (o : Option Edge) (e : Edge) → t ≡ false → o ≡ Some e → (if t then b else option_map_or (made b) o b) ≡ made b e
turn_made t b o e other is = rw (other, is) refl

module _ (r n : ℕ) (b now : State) (d : Driver) (old new : Option (List ℕ)) (held left : List ℕ) (got : Option Edge)
    (is : got ≡ slice_get (offered b d) (r % length (offered b d))) (took : now ≡ option_map_or (made b) got b) where
  -- the line of the offer is put to the text
  pub turn_listed : (e : Edge) → got ≡ Some e → length b.history ≢ n → (result : Result (Unit {0}) Fault)
      → OnOk result (HandsOn old new (held ++ edge_line e) left) → OnErr result (AppendsFront old new held) → IfErr result (λ f. f ≡ Write)
      → ListsOn b held old new (turn r n b d) now left result
  turn_listed e some more (Ok u) ok front fault =
      let here : now ≡ made b e = took ∙ ap (λ (o : Option Edge). option_map_or (made b) o b) some in (
        here ∙ sym (turn_made (length b.history == n) b _ e (ne_eqb (length b.history) n more) (sym is ∙ some)),
        λ first listed. subst (λ (s : State). IsListed first new left (lines_made s)) (sym here) (listed_edge first old new held b listed e left ok),
      )
  turn_listed e some more (Err f) ok front fault =
      (fault, λ first listed. front_later first new b (turn r n b d) (before_turn r n b d) (listed_part first old new held b listed front))

-- ---- turns and rounds

module _ (r n : ℕ) (b now : State) (ds : List Driver) (i : ℕ) (d : Driver) (near : i < length ds) (rest : turns r n b ds ≡ turns r n now (drop i ds)) where
  turns_more : turns r n b ds ≡ turns r n (turn r n now (get_or ds i d)) (drop (i + 1) ds)
  turns_more = rest ∙ ap (turns r n now) (drop_more ds i d near)

  -- the lines up to a turn that was cut off
  pub turns_front : (first new : Option (List ℕ)) → AppendsFront first new (lines_made (turn r n now (get_or ds i d))) → AppendsFront first new (lines_made (turns r n b ds))
  turns_front first new w =
      let next = turn r n now (get_or ds i d) in
      subst (λ (s : State). AppendsFront first new (lines_made s)) (sym turns_more)
      (front_later first new next (turns r n next (drop (i + 1) ds)) (before_turns r n next (drop (i + 1) ds)) w)

before_round_by : (t : Bool) (left r n : ℕ) (b : State) → (length (turns r n b (drivers b.plan)).history == length b.history) ≡ t
    → IsBefore (turns r n b (drivers b.plan)) (if t then b else rounds_from left (r + 1) n (turns r n b (drivers b.plan)))
before_round_by true left r n b e =
    let same : turns r n b (drivers b.plan) ≡ b = same_length b (turns r n b (drivers b.plan)) (later r n b (drivers b.plan)) (eqb-true _ _ e) in
    ([], sym (ap (λ (s : State). s.history) same))
before_round_by false left r n b e = before_rounds left (r + 1) n (turns r n b (drivers b.plan))

-- a round that is not the last is within all rounds
before_round : (left r n : ℕ) (b : State) → IsBefore (turns r n b (drivers b.plan)) (rounds_from (suc left) r n b)
before_round left r n b = before_round_by (length (turns r n b (drivers b.plan)).history == length b.history) left r n b refl

-- the lines up to a round that was cut off
pub rounds_front : (left r n : ℕ) (b end : State) (all : List Driver) → all ≡ drivers b.plan → end ≡ rounds_from (suc left) r n b → (first new : Option (List ℕ))
    → AppendsFront first new (lines_made (turns r n b all)) → AppendsFront first new (lines_made end)
rounds_front left r n b end all are is first new w =
    subst (λ (s : State). AppendsFront first new (lines_made s)) (sym is)
    (front_later first new (turns r n b (drivers b.plan)) (rounds_from (suc left) r n b) (before_round left r n b) (subst (λ (ds : List Driver). AppendsFront first new (lines_made (turns r n b ds))) are w))

-- ---- the trace

-- the trace of all rounds names the version that they began with
trace_is : (b : State) (n : ℕ) → trace_made (rounds b n) ≡ (header b.version ++ 10 ∷ []) ++ lines_made (rounds b n)
trace_is b n = ap (λ v. text v (in_order (rounds b n).history)) (rounds_later n 0 n b).version

-- from its header line on
module _ (b : State) (n : ℕ) (old headed : Option (List ℕ)) (header_line : List ℕ) (is : header_line ≡ header b.version ++ 10 ∷ []) where
  behind : (new : Option (List ℕ)) → Appends old headed header_line → Appends headed new (lines_made (rounds b n)) → Appends old new (trace_made (rounds b n))
  behind new h w = subst (Appends old new) (ap (λ l. l ++ lines_made (rounds b n)) is ∙ sym (trace_is b n)) (Appends-trans old headed new header_line (lines_made (rounds b n)) h w)

  part_behind : (new : Option (List ℕ)) → Appends old headed header_line → AppendsFront headed new (lines_made (rounds b n)) → AppendsFront old new (trace_made (rounds b n))
  part_behind new h w = subst (AppendsFront old new) (ap (λ l. l ++ lines_made (rounds b n)) is ∙ sym (trace_is b n)) (front_behind old headed new header_line (lines_made (rounds b n)) h w)

  -- the header line could not be written
  pub unheaded : AppendsFront old headed header_line → AppendsFront old headed (trace_made (rounds b n))
  unheaded h = subst (AppendsFront old headed) (ap (λ l. l ++ lines_made (rounds b n)) is ∙ sym (trace_is b n)) (front_of_more old headed header_line (lines_made (rounds b n)) h)

  module _ (wrote : Appends old headed header_line) (held : List ℕ) (empty : held ≡ []) (start : b.history ≡ []) (listed : Option (List ℕ)) (now : State) (left : List ℕ) where
    -- the rounds were cut off
    pub cut_off : (f : Fault) → ListsOn b held headed listed (rounds b n) now left (Err f) → AppendsFront old listed (trace_made (rounds b n))
    cut_off f h = part_behind listed wrote (h.1 headed (none_listed headed held b empty start))

    -- what was held behind them is written
    pub all_written : (new : Option (List ℕ)) → ListsOn b held headed listed (rounds b n) now left (Ok tt) → Appends listed new left → Appends old new (trace_made (rounds b n))
    all_written new h w =
        behind new wrote (subst (λ (s : State). Appends headed new (lines_made s)) h.0 (listed_all headed listed new left now (h.1 headed (none_listed headed held b empty start)) w))

    -- what was held could not be written
    pub part_written : (new : Option (List ℕ)) → ListsOn b held headed listed (rounds b n) now left (Ok tt) → AppendsFront listed new left → AppendsFront old new (trace_made (rounds b n))
    part_written new h w =
        part_behind new wrote (subst (λ (s : State). AppendsFront headed new (lines_made s)) h.0 (listed_part headed listed new left now (h.1 headed (none_listed headed held b empty start)) w))

pub on_kept : {E A : Type 0} (r : Result A E) (a b c : Option (List ℕ)) (x : List ℕ) → Appends a b x → Keeps b c → OnOk r (Appends a c x)
on_kept (Ok u) a b c x w k = Appends-kept a b c x w k
on_kept (Err e) a b c x w k = tt

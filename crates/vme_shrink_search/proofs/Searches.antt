-- A search, step by step.
use Rattle.std.proofs.Common.{◌≡◌, ◌≢◌, ◌⊎◌, inl, inr, ◌||◌, ◌<◌, ◌≤◌, ◌+◌, ◌-◌, ◌*◌, ◌/◌, ◌^◌, ◌++◌, ℕ, zero, suc, Bool, true, false, not, if◌then◌else◌, List, [], Err, length, take, drop, refl, sym, ◌∙◌, ap, subst, arith}
use Rattle.std.specs.Prelude.{◌↔◌, nat_lt}
use Rattle.std.specs.Int.{IsPowerOfTwo}
use Rattle.std.proofs.lemmas.Bool.{cases_lt}
use Rattle.std.proofs.lemmas.Nat.{mul-le, pow_pos, pow-add}
use Rattle.vme_model.specs.declared.signals.Edge.{Edge}
use Rattle.vme_model.specs.declared.refusals.Refused.TheVariants.{TraceFull}
use Rattle.vme_model.specs.History.{in_order}
use Rattle.vme_model.specs.Report.{at_power_up, trace_limit}
use Rattle.vme_model.specs.Verdict.{State, kept}
use Rattle.vme_shrink_search.specs.declared.search.Search.{Search}
use Rattle.vme_shrink_search.specs.Alike.{is_same_reply}
use Rattle.vme_shrink_search.specs.Leading.{LeadsTo}
use Rattle.vme_shrink_search.specs.Searching.{HasLeft, IsOn, IsSearch, next_size, start}
use Rattle.vme_shrink_search.specs.Stories.{IsFound, IsPart, IsTight, IsTightAt, accepted, without}
use Rattle.vme_shrink_search.specs.Replies.{Reply, reply, reply_at}
use Rattle.vme_shrink_search.proofs.Alike.{alike_reply, reply_alike}
use Rattle.vme_shrink_search.proofs.Found.{found_by, found_full, reply_left}
use Rattle.vme_shrink_search.proofs.Lists.{accepted_again, kept_accepted, kept_append, kept_plan, kept_version, without_few, without_front}
use Rattle.vme_shrink_search.proofs.Parts.{part_few, part_of_part, part_same, without_part}

true_false : true ≡ false → ⊥
true_false h = cc

false_true : false ≡ true → ⊥
false_true h = cc

neither : (a c : Bool) → (a || c) ≡ false → (a ≡ false) × (c ≡ false)
neither false false h = (refl, refl)
neither false true h = absurd (true_false h)
neither true c h = absurd (true_false h)

-- ---- one after another

on_self : (s : Search) → IsSearch s → IsOn s s
on_self s is = record { start = refl; edge = refl; reply = refl; search = is }

on_on : (s m n : Search) → IsOn s m → IsOn m n → IsOn s n
on_on s m n p q = record {
  start = q.start ∙ p.start;
  edge = q.edge ∙ p.edge;
  reply = q.reply ∙ p.reply;
  search = q.search;
}

pub left_self : (s : Search) → IsSearch s → HasLeft s s false
left_self s is = record {
  on = on_self s is;
  part = part_same s.list.items;
  shorter = λ h. absurd (false_true h);
  same = λ h. refl;
}

shorter_by : (a c : Bool) (x y z : ℕ) → y ≤ x → z ≤ y → (a ≡ true → y < x)
    → (c ≡ true → z < y) → (a || c) ≡ true → z < x
shorter_by true c x y z le few f g h = let lt = f refl in omega arith
shorter_by false true x y z le few f g h = let lt = g refl in omega arith
shorter_by false false x y z le few f g h = absurd (false_true h)

left_on : (s m n : Search) (a c : Bool) → HasLeft s m a → HasLeft m n c → HasLeft s n (a || c)
left_on s m n a c p q = record {
  on = on_on s m n p.on q.on;
  part = part_of_part n.list.items m.list.items s.list.items q.part p.part;
  shorter = shorter_by a c (length s.list.items) (length m.list.items) (length n.list.items)
      (part_few m.list.items s.list.items p.part) (part_few n.list.items m.list.items q.part)
      p.shorter q.shorter;
  same = λ h. let e = neither a c h in q.same e.1 ∙ p.same e.0;
}

-- ---- a stretch is left out, or not

same_left : (b c : State) (g h : List Edge) (e f : Edge) (x y u v : ℕ) → c ≡ b → h ≡ g → f ≡ e
    → u ≡ x → v ≡ y → reply c (without c h u v) f ≡ reply b (without b g x y) e
same_left b c g h e f x y u v p q r s t =
    (λ i. reply (p i) (without (p i) (q i) (s i) (t i)) (r i))

same_reply : (b c : State) (g h : List Edge) (e f : Edge) → c ≡ b → h ≡ g → f ≡ e
    → reply c h f ≡ reply b g e
same_reply b c g h e f p q r = (λ i. reply (p i) (q i) (r i))

pub taken_on : (s now : Search) (t : Reply) (from to : ℕ) → start now ≡ start s
    → now.edge ≡ s.edge → now.reply ≡ s.reply
    → now.list.items ≡ without (start s) s.list.items from to
    → t ≡ reply (start s) (without (start s) s.list.items from to) s.edge
    → is_same_reply t s.reply ≡ true → IsOn s now
taken_on s now t from to p q r list is same = record {
  start = p;
  edge = q;
  reply = r;
  search = record {
    reply = r ∙ sym (reply_alike t s.reply same) ∙ is
        ∙ sym (same_reply (start s) (start now) (without (start s) s.list.items from to)
        now.list.items s.edge now.edge p list q);
    whole = (λ i. accepted (p i) (list i))
        ∙ accepted_again (start s) (take from s.list.items ++ drop to s.list.items) refl
        ∙ sym list;
  };
}

pub kept_on : (s now : Search) → IsSearch s → start now ≡ start s → now.edge ≡ s.edge
    → now.reply ≡ s.reply → now.list.items ≡ s.list.items → IsOn s now
kept_on s now is p q r list = record {
  start = p;
  edge = q;
  reply = r;
  search = record {
    reply = r ∙ is.reply
        ∙ sym (same_reply (start s) (start now) s.list.items now.list.items s.edge now.edge p list q);
    whole = (λ i. accepted (p i) (list i)) ∙ is.whole ∙ sym list;
  };
}

pub not_same : (t u v : Reply) → t ≡ v → is_same_reply t u ≡ false → v ≢ u
not_same t u v is other same = true_false (sym (alike_reply t u (is ∙ same)) ∙ other)

-- what a step says
pub record Steps (s now : Search) (from to : ℕ) (c : Bool) : Type 0 where
  pub on : IsOn s now
  pub left : c ≡ true → now.list.items ≡ without (start s) s.list.items from to
  pub stays : c ≡ false → now.list.items ≡ s.list.items
  pub other : c ≡ false
      → reply (start s) (without (start s) s.list.items from to) s.edge ≢ s.reply

step_left : (s now : Search) (from to : ℕ) (left : Bool) → from < to → to ≤ length s.list.items
    → Steps s now from to left → HasLeft s now left
step_left s now from to true lt within p =
    let e = p.left refl in
    record {
      on = p.on;
      part = subst (λ l. IsPart l s.list.items) (sym e)
          (without_part (start s) s.list.items from to refl (omega arith));
      shorter = λ h. subst (λ l. length l < length s.list.items) (sym e)
          (without_few (start s) s.list.items from to refl lt within);
      same = λ h. absurd (true_false h);
    }
step_left s now from to false lt within p =
    let e = p.stays refl in
    record {
      on = p.on;
      part = subst (λ l. IsPart l s.list.items) (sym e) (part_same s.list.items);
      shorter = λ h. absurd (false_true h);
      same = λ h. e;
    }

step_front : (s now : Search) (from to : ℕ) (left : Bool) → IsSearch s → from ≤ to
    → to ≤ length s.list.items → Steps s now from to left → from ≤ length now.list.items
step_front s now from to true is le within p =
    subst (λ l. from ≤ length l) (sym (p.left refl))
    (without_front (start s) s.list.items from to refl is.whole (omega arith))
step_front s now from to false is le within p =
    subst (λ l. from ≤ length l) (sym (p.stays refl)) (omega arith)

-- where a stretch was left out, the same is said without it
left_same : (s now : Search) (from to : ℕ) → Steps s now from to true
    → reply (start s) (without (start s) s.list.items from to) s.edge ≡ s.reply
left_same s now from to p =
    sym (same_reply (start s) (start now) (without (start s) s.list.items from to) now.list.items
    s.edge now.edge p.on.start (p.left refl) p.on.edge)
    ∙ sym p.on.search.reply ∙ p.on.reply

-- ---- a pass

-- of the list that it began with no stretch so far can be left out
abbrev AreTried : Search → ℕ → ℕ → Type 0
AreTried s size n =
    (i : ℕ) → i < n
    → reply (start s) (without (start s) s.list.items (length s.list.items - (i + 1) * size)
    (length s.list.items - i * size)) s.edge ≢ reply (start s) s.list.items s.edge

pub record IsPassing (first now : Search) (size end : ℕ) (has_left : Bool) : Type 0 where
  pub left : HasLeft first now has_left
  pub within : end ≤ length now.list.items
  pub tried : has_left ≡ false
      → (n : ℕ) × (end ≡ length first.list.items - n * size) × AreTried first size n
  pub still : IsTightAt (start first) first.edge size first.list.items → has_left ≡ false

pub pass_first : (s : Search) (size : ℕ) → IsSearch s
    → IsPassing s s size (length s.list.items) false
pass_first s size is = record {
  left = left_self s is;
  within = omega arith;
  tried = λ h. (0, omega arith, λ i lt. absurd (omega arith));
  still = λ tight. refl;
}

more_of : (n p : ℕ) → (n + 1) * p ≡ n * p + p
more_of n p = omega arith

next_end : (all n size end : ℕ) → end ≡ all - n * size → end - size ≡ all - (n + 1) * size
next_end all n size end is = let more = more_of n size in omega (arith, is, more)

-- what is said without this stretch, of the list that the pass began with
stretch : (first now : Search) (size end n : ℕ) → HasLeft first now false
    → end ≡ length first.list.items - n * size
    → reply (start now) (without (start now) now.list.items (end - size) end) now.edge
    ≡ reply (start first) (without (start first) first.list.items
    (length first.list.items - (n + 1) * size) (length first.list.items - n * size)) first.edge
stretch first now size end n p is =
    same_left (start first) (start now) first.list.items now.list.items first.edge now.edge
    (length first.list.items - (n + 1) * size) (length first.list.items - n * size)
    (end - size) end p.on.start (p.same refl) p.on.edge
    (next_end (length first.list.items) n size end is) is

reply_first : (first now : Search) → HasLeft first now false
    → now.reply ≡ reply (start first) first.list.items first.edge
reply_first first now p =
    p.on.search.reply
    ∙ same_reply (start first) (start now) first.list.items now.list.items first.edge now.edge
    p.on.start (p.same refl) p.on.edge

one_tried : (first : Search) (size n : ℕ) → AreTried first size n
    → reply (start first) (without (start first) first.list.items
    (length first.list.items - (n + 1) * size) (length first.list.items - n * size)) first.edge
    ≢ reply (start first) first.list.items first.edge
    → AreTried first size (n + 1)
one_tried first size n each last i lt = by (cases_lt i n)
  where
    by : (i < n) ⊎ (n ≤ i)
        → reply (start first) (without (start first) first.list.items
        (length first.list.items - (i + 1) * size) (length first.list.items - i * size)) first.edge
        ≢ reply (start first) first.list.items first.edge
    by (inl below) = each i below
    by (inr above) =
        let is : n ≡ i = omega arith in
        subst (λ m. reply (start first) (without (start first) first.list.items
        (length first.list.items - (m + 1) * size) (length first.list.items - m * size)) first.edge
        ≢ reply (start first) first.list.items first.edge) is last

tried_more : (first now next : Search) (size end : ℕ) (a c : Bool)
    → IsPassing first now size end a → Steps now next (end - size) end c → (a || c) ≡ false
    → (n : ℕ) × (end - size ≡ length first.list.items - n * size) × AreTried first size n
tried_more first now next size end false false p q h =
    let t = p.tried refl in (
      t.0 + 1,
      next_end (length first.list.items) t.0 size end t.1,
      one_tried first size t.0 t.2 (λ same. q.other refl
          (stretch first now size end t.0 p.left t.1 ∙ same ∙ sym (reply_first first now p.left))),
    )
tried_more first now next size end false true p q h = absurd (true_false h)
tried_more first now next size end true c p q h = absurd (true_false h)

before_end : (all x end : ℕ) → end ≡ all - x → 0 < end → x < all
before_end all x end is some = omega arith

still_by : (first now next : Search) (size end : ℕ) (a c : Bool) → 0 < end
    → IsPassing first now size end a → Steps now next (end - size) end c
    → IsTightAt (start first) first.edge size first.list.items → (a || c) ≡ false
still_by first now next size end false false some p q tight = refl
still_by first now next size end false true some p q tight =
    let t = p.tried refl in
    absurd (tight t.0 (before_end (length first.list.items) (t.0 * size) end t.1 some)
    (sym (stretch first now size end t.0 p.left t.1) ∙ left_same now next (end - size) end q
    ∙ reply_first first now p.left))
still_by first now next size end true c some p q tight = absurd (true_false (p.still tight))

pub pass_step : (first now next : Search) (size end : ℕ) (a c : Bool) → 0 < size → 0 < end
    → IsPassing first now size end a → Steps now next (end - size) end c
    → IsPassing first next size (end - size) (a || c)
pass_step first now next size end a c pos some p q = record {
  left = left_on first now next a c p.left
      (step_left now next (end - size) end c (omega arith) p.within q);
  within = step_front now next (end - size) end c p.left.on.search (omega arith) p.within q;
  tried = tried_more first now next size end a c p q;
  still = still_by first now next size end a c some p q;
}

all_tried : (all n m size : ℕ) → 0 ≡ all - n * size → m * size < all → m < n
all_tried all n m size is lt = by (cases_lt m n)
  where
    by : (m < n) ⊎ (n ≤ m) → m < n
    by (inl below) = below
    by (inr above) =
        let le = mul-le n size m size above (omega arith) in absurd (omega (arith, le, is, lt))

pub pass_end : (first now : Search) (size : ℕ) (a : Bool) → IsPassing first now size 0 a
    → ((a ≡ false) ↔ IsTightAt (start first) first.edge size first.list.items)
pass_end first now size a p = (
  λ h n lt. let t = p.tried h in
      t.2 n (all_tried (length first.list.items) t.0 n size t.1 lt),
  p.still,
)

-- ---- a run

tight_same : (b c : State) (e f : Edge) (size : ℕ) (g h : List Edge) → b ≡ c → e ≡ f → g ≡ h
    → IsTightAt b e size g → IsTightAt c f size h
tight_same b c e f size g h p q r t =
    subst (λ x. IsTightAt x f size h) p
    (subst (λ x. IsTightAt b x size h) q (subst (λ x. IsTightAt b e size x) r t))

-- the sizes from the last one up, below the first 0
abbrev pub sized : ℕ → ℕ
sized zero = 0
sized (suc i) = 2 ^ i

one_first : (i : ℕ) → suc i ≡ 1 + i
one_first i = omega arith

double : (i : ℕ) → 2 ^ suc i ≡ 2 * 2 ^ i
double i = ap (λ n. 2 ^ n) (one_first i) ∙ pow-add 2 1 i

half : (i : ℕ) → 2 ^ i / 2 ≡ sized i
half zero = refl
half (suc i) = let e = double i in omega (arith, e)

pub record IsRunning (first now : Search) (size : ℕ) (has_left : Bool) : Type 0 where
  pub top : ℕ
  pub steps : ℕ
  pub size_is : size ≡ sized steps
  pub enough : length first.list.items ≤ 2 ^ top
  pub left : HasLeft first now has_left
  pub tried : has_left ≡ false → (k : ℕ) → steps ≤ k → k ≤ top
      → IsTightAt (start first) first.edge (2 ^ k) first.list.items
  pub still : IsTight (start first) first.edge first.list.items → has_left ≡ false

pub run_first : (s : Search) (size : ℕ) → IsSearch s → IsPowerOfTwo size
    → length s.list.items ≤ size → IsRunning s s size false
run_first s size is power enough = record {
  top = power.0;
  steps = suc power.0;
  size_is = power.1;
  enough = subst (λ n. length s.list.items ≤ n) power.1 enough;
  left = left_self s is;
  tried = λ h k from to. absurd (omega arith);
  still = λ tight. refl;
}

-- a pass on a list that is still the first one
back : (first now : Search) (size : ℕ) → HasLeft first now false
    → IsTightAt (start now) now.edge size now.list.items
    → IsTightAt (start first) first.edge size first.list.items
back first now size p =
    tight_same (start now) (start first) now.edge first.edge size now.list.items first.list.items
    p.on.start p.on.edge (p.same refl)

forth : (first now : Search) (size : ℕ) → HasLeft first now false
    → IsTightAt (start first) first.edge size first.list.items
    → IsTightAt (start now) now.edge size now.list.items
forth first now size p =
    tight_same (start first) (start now) first.edge now.edge size first.list.items now.list.items
    (sym p.on.start) (sym p.on.edge) (sym (p.same refl))

run_still : (first now : Search) (size i : ℕ) (a c : Bool) → size ≡ 2 ^ i → HasLeft first now a
    → (IsTight (start first) first.edge first.list.items → a ≡ false)
    → (IsTightAt (start now) now.edge size now.list.items → c ≡ false)
    → IsTight (start first) first.edge first.list.items → (a || c) ≡ false
run_still first now size i false c is p still one tight =
    one (subst (λ n. IsTightAt (start now) now.edge n now.list.items) (sym is)
    (forth first now (2 ^ i) p (tight i)))
run_still first now size i true c is p still one tight = absurd (true_false (still tight))

run_tried : (first now : Search) (size i top : ℕ) (a c : Bool) → size ≡ 2 ^ i
    → HasLeft first now a
    → (a ≡ false → (k : ℕ) → suc i ≤ k → k ≤ top
    → IsTightAt (start first) first.edge (2 ^ k) first.list.items)
    → (c ≡ false → IsTightAt (start now) now.edge size now.list.items) → (a || c) ≡ false
    → (k : ℕ) → i ≤ k → k ≤ top → IsTightAt (start first) first.edge (2 ^ k) first.list.items
run_tried first now size i top false false is p tried one h k from to =
    by (cases_lt i k)
  where
    by : (i < k) ⊎ (k ≤ i) → IsTightAt (start first) first.edge (2 ^ k) first.list.items
    by (inl above) = tried refl k (omega arith) to
    by (inr below) =
        let same : i ≡ k = omega arith in
        subst (λ n. IsTightAt (start first) first.edge n first.list.items)
        (is ∙ ap (λ n. 2 ^ n) same) (back first now size p (one refl))
run_tried first now size i top false true is p tried one h k from to = absurd (true_false h)
run_tried first now size i top true c is p tried one h k from to = absurd (true_false h)

run_by : (first now next : Search) (size i : ℕ) (a c halved : Bool) → size ≡ 2 ^ i
    → (p : IsRunning first now size a) → p.steps ≡ suc i → HasLeft now next c
    → ((c ≡ false) ↔ IsTightAt (start now) now.edge size now.list.items)
    → (halved ≡ false → c ≡ true)
    → IsRunning first next (if halved then size / 2 else size) (a || c)
run_by first now next size i a c true is p steps q tight again = record {
  top = p.top;
  steps = i;
  size_is = ap (λ n. n / 2) is ∙ half i;
  enough = p.enough;
  left = left_on first now next a c p.left q;
  tried = run_tried first now size i p.top a c is p.left
      (λ h k from to. p.tried h k (subst (λ n. n ≤ k) (sym steps) from) to) tight.0;
  still = run_still first now size i a c is p.left p.still tight.1;
}
run_by first now next size i a c false is p steps q tight again = record {
  top = p.top;
  steps = p.steps;
  size_is = p.size_is;
  enough = p.enough;
  left = left_on first now next a c p.left q;
  tried = λ h. absurd (true_false (sym (again refl) ∙ (neither a c h).1));
  still = run_still first now size i a c is p.left p.still tight.1;
}

not_halved : (b c : Bool) → (b || not c) ≡ false → c ≡ true
not_halved false true h = refl
not_halved false false h = absurd (true_false h)
not_halved true c h = absurd (true_false h)

steps_by : (size steps : ℕ) → 0 < size → size ≡ sized steps
    → (i : ℕ) × (steps ≡ suc i) × (size ≡ 2 ^ i)
steps_by size zero pos is = absurd (omega (arith, pos, is))
steps_by size (suc i) pos is = (i, refl, is)

pub run_step : (first now next : Search) (size : ℕ) (a c : Bool) → 0 < size
    → IsRunning first now size a → HasLeft now next c
    → ((c ≡ false) ↔ IsTightAt (start now) now.edge size now.list.items)
    → IsRunning first next (next_size size c) (a || c)
run_step first now next size a c pos p q tight =
    let s = steps_by size p.steps pos p.size_is in
    run_by first now next size s.0 a c (nat_lt 1 size || not c) s.2 p s.1 q tight
    (not_halved (nat_lt 1 size) c)

smaller_by : (size n m : ℕ) (c halved : Bool) → 0 < size → (c ≡ true → m < n)
    → (c ≡ false → m ≡ n) → (halved ≡ false → c ≡ true)
    → (if halved then size / 2 else size) + m < size + n
smaller_by size n m true true pos less same again = let lt = less refl in omega arith
smaller_by size n m true false pos less same again = let lt = less refl in omega arith
smaller_by size n m false true pos less same again = let e = same refl in omega arith
smaller_by size n m false false pos less same again = absurd (false_true (again refl))

-- each pass makes the list or the size smaller
pub run_smaller : (now next : Search) (size : ℕ) (c : Bool) → 0 < size → HasLeft now next c
    → next_size size c + length next.list.items < size + length now.list.items
run_smaller now next size c pos q =
    smaller_by size (length now.list.items) (length next.list.items) c (nat_lt 1 size || not c) pos
    q.shorter (λ h. ap length (q.same h)) (not_halved (nat_lt 1 size) c)

-- of greater sizes there is one stretch alone, the whole list
times_more : (n p : ℕ) → p ≤ suc n * p
times_more n p = omega arith

whole_from : (all p : ℕ) → all ≤ p → all - (0 + 1) * p ≡ 0
whole_from all p le = omega arith

whole_to : (all p q : ℕ) → all - 0 * p ≡ all - 0 * q
whole_to all p q = omega arith

some_of : (all p q : ℕ) → 0 * q < all → 0 * p < all
some_of all p q lt = omega arith

beyond : (b : State) (e : Edge) (p q : ℕ) (g : List Edge) → length g ≤ p → p ≤ q
    → IsTightAt b e p g → IsTightAt b e q g
beyond b e p q g enough le tight zero lt = λ same.
    tight 0 (some_of (length g) p q lt)
    (same_left b b g g e e (length g - (0 + 1) * q) (length g - 0 * q) (length g - (0 + 1) * p)
    (length g - 0 * p) refl refl refl
    (whole_from (length g) p enough ∙ sym (whole_from (length g) q (omega arith)))
    (whole_to (length g) p q) ∙ same)
beyond b e p q g enough le tight (suc n) lt =
    let more = times_more n q in absurd (omega (arith, more, lt, enough, le))

power_more : (i d : ℕ) → 2 ^ i ≤ 2 ^ (i + d)
power_more i zero = let e : i ≡ i + 0 = omega arith in subst (λ n. 2 ^ i ≤ 2 ^ n) e (omega arith)
power_more i (suc d) =
    let e : suc (i + d) ≡ i + suc d = omega arith in
    subst (λ n. 2 ^ i ≤ 2 ^ n) e
    (let le = power_more i d in let two = double (i + d) in omega (arith, le, two))

power_up : (i k : ℕ) → i ≤ k → 2 ^ i ≤ 2 ^ k
power_up i k le =
    let e : i + (k - i) ≡ k = omega arith in subst (λ n. 2 ^ i ≤ 2 ^ n) e (power_more i (k - i))

none_sized : (steps : ℕ) → 0 ≡ sized steps → steps ≡ 0
none_sized zero is = refl
none_sized (suc i) is = let pos = pow_pos i in absurd (omega (arith, pos, is))

all_sizes : (first now : Search) (a : Bool) → (p : IsRunning first now 0 a) → a ≡ false
    → (k : ℕ) → (k < p.top) ⊎ (p.top ≤ k)
    → IsTightAt (start first) first.edge (2 ^ k) first.list.items
all_sizes first now a p h k (inl below) =
    let none = none_sized p.steps p.size_is in
    p.tried h k (omega arith) (omega arith)
all_sizes first now a p h k (inr above) =
    let none = none_sized p.steps p.size_is in
    beyond (start first) first.edge (2 ^ p.top) (2 ^ k) first.list.items p.enough
    (power_up p.top k above) (p.tried h p.top (omega arith) (omega arith))

pub run_end : (first now : Search) (a : Bool) → IsRunning first now 0 a
    → ((a ≡ false) ↔ IsTight (start first) first.edge first.list.items)
run_end first now a p = (λ h k. all_sizes first now a p h k (cases_lt k p.top), p.still)

-- ---- run after run

pub record IsShortening (first now : Search) (has_left : Bool) : Type 0 where
  pub on : IsOn first now
  pub part : IsPart now.list.items first.list.items
  pub tight : has_left ≡ false → IsTight (start first) first.edge now.list.items
  pub still : IsTight (start first) first.edge first.list.items
      → now.list.items ≡ first.list.items

pub shorten_first : (s : Search) → IsSearch s → IsShortening s s true
shorten_first s is = record {
  on = on_self s is;
  part = part_same s.list.items;
  tight = λ h. absurd (true_false h);
  still = λ tight. refl;
}

pub shorten_step : (first now next : Search) (a c : Bool) → IsShortening first now a
    → HasLeft now next c → ((c ≡ false) ↔ IsTight (start now) now.edge now.list.items)
    → IsShortening first next c
shorten_step first now next a c p q tight = record {
  on = on_on first now next p.on q.on;
  part = part_of_part next.list.items now.list.items first.list.items q.part p.part;
  tight = λ h k. tight_same (start now) (start first) now.edge first.edge (2 ^ k) now.list.items
      next.list.items p.on.start p.on.edge (sym (q.same h)) (tight.0 h k);
  still = λ t.
      q.same (tight.1 (λ k. tight_same (start first) (start now) first.edge now.edge (2 ^ k)
      first.list.items now.list.items (sym p.on.start) (sym p.on.edge) (sym (p.still t)) (t k)))
      ∙ p.still t;
}

flag_smaller : (n m : ℕ) (c : Bool) → (c ≡ true → m < n) → (c ≡ false → m ≡ n)
    → m + (if c then 1 else 0) < n + 1
flag_smaller n m true less same = let lt = less refl in omega arith
flag_smaller n m false less same = let e = same refl in omega arith

pub shorten_smaller : (now next : Search) (a c : Bool) → a ≡ true → HasLeft now next c
    → length next.list.items + (if c then 1 else 0)
    < length now.list.items + (if a then 1 else 0)
shorten_smaller now next true c is q =
    flag_smaller (length now.list.items) (length next.list.items) c q.shorter
    (λ h. ap length (q.same h))
shorten_smaller now next false c is q = absurd (false_true is)

-- ---- the search that begins

start_of : (b s : State) (es : List Edge) → b ≡ at_power_up b.version b.plan trace_limit
    → s ≡ kept b es → at_power_up s.version s.plan trace_limit ≡ b
start_of b s es power is =
    ap (λ (x : State). at_power_up x.version x.plan trace_limit) is
    ∙ (λ i. at_power_up (kept_version b es i) (kept_plan b es i) trace_limit) ∙ sym power

pub start_again : (b s : State) (es fs : List Edge) (mid : State)
    → b ≡ at_power_up b.version b.plan trace_limit → mid ≡ kept b es → s ≡ kept mid fs
    → at_power_up s.version s.plan trace_limit ≡ b
start_again b s es fs mid power first is =
    start_of b s (es ++ fs) power
    (is ∙ ap (λ (x : State). kept x fs) first ∙ sym (kept_append b es fs))

-- what is left without a stretch, and what is said then
pub reply_again : (b s mid : State) (g : List Edge) (e : Edge) (from to : ℕ) (t : Reply)
    → b.history ≡ [] → mid ≡ kept b (take from g) → s ≡ kept mid (drop to g) → t ≡ reply_at s e
    → t ≡ reply b (without b g from to) e
reply_again b s mid g e from to t none first is said =
    said
    ∙ ap (λ (x : State). reply_at x e)
    (is ∙ ap (λ (x : State). kept x (drop to g)) first
    ∙ sym (kept_append b (take from g) (drop to g)))
    ∙ sym (reply_left b g e from to none)

pub list_again : (b s mid : State) (g list : List Edge) (from to : ℕ)
    → mid ≡ kept b (take from g) → s ≡ kept mid (drop to g) → list ≡ in_order s.history
    → list ≡ without b g from to
list_again b s mid g list from to first is made =
    made
    ∙ ap (λ (x : State). in_order x.history)
    (is ∙ ap (λ (x : State). kept x (drop to g)) first
    ∙ sym (kept_append b (take from g) (drop to g)))

-- the edges that are left lead to the bus
pub leads_again : (b s mid : State) (g list : List Edge) (from to : ℕ)
    → b ≡ at_power_up b.version b.plan trace_limit → b.history ≡ [] → mid ≡ kept b (take from g)
    → s ≡ kept mid (drop to g) → list ≡ in_order s.history → LeadsTo list s
leads_again b s mid g list from to power none first is made =
    let es : List Edge = take from g ++ drop to g in
    let all : s ≡ kept b es =
    is ∙ ap (λ (x : State). kept x (drop to g)) first
    ∙ sym (kept_append b (take from g) (drop to g)) in
    let same : accepted b es ≡ list = ap (λ (x : State). in_order x.history) (sym all) ∙ sym made in
    record {
      made = made;
      leads = all ∙ sym (kept_accepted b es none)
          ∙ (λ i. kept (sym (start_of b s es power all) i) (same i));
    }

-- the edges that were made
pub begins : (s : Search) → LeadsTo s.list.items s.bus → s.reply ≡ reply_at s.bus s.edge
    → IsSearch s
begins s led said = record {
  reply = said ∙ ap (λ (x : State). reply_at x s.edge) led.leads;
  whole = ap (λ (x : State). in_order x.history) (sym led.leads) ∙ sym led.made;
}

pub found_search : (s now : Search) (b : State) (h : List Edge) (e : Edge) → IsSearch s
    → start s ≡ b → b.history ≡ [] → s.list.items ≡ h → s.edge ≡ e → IsOn s now
    → IsPart now.list.items s.list.items → IsTight (start s) s.edge now.list.items
    → (IsTight (start s) s.edge s.list.items → now.list.items ≡ s.list.items)
    → IsFound b h e now.list.items
found_search s now b h e is from none list edge on part tight still =
    let p : start now ≡ b = on.start ∙ from in
    let same : reply b now.list.items e ≡ reply b s.list.items e =
    sym (same_reply b (start now) now.list.items now.list.items e now.edge p refl (on.edge ∙ edge))
    ∙ sym on.search.reply ∙ on.reply ∙ is.reply
    ∙ same_reply b (start s) s.list.items s.list.items e s.edge from refl edge in
    subst (λ l. IsFound b l e now.list.items) list
    (found_by b s.list.items e now.list.items none
    ((λ i. accepted (sym p i) now.list.items) ∙ on.search.whole) part same
    (λ k. tight_same (start s) b s.edge e (2 ^ k) now.list.items now.list.items from edge refl
    (tight k))
    (λ t. still (λ k. tight_same b (start s) e s.edge (2 ^ k) s.list.items s.list.items (sym from)
    (sym edge) refl (t k))))

pub found_at_end : (s : Search) (b : State) (h : List Edge) (e : Edge) → IsSearch s → start s ≡ b
    → b.history ≡ [] → s.list.items ≡ h → s.edge ≡ e → s.reply.answer ≡ Err TraceFull
    → IsFound b h e s.list.items
found_at_end s b h e is from none list edge full =
    let same : s.reply ≡ reply b s.list.items e =
    is.reply ∙ same_reply b (start s) s.list.items s.list.items e s.edge from refl edge in
    subst (λ l. IsFound b l e s.list.items) list
    (found_full b s.list.items e none
    (ap (λ (x : State). accepted x s.list.items) (sym from) ∙ is.whole)
    (sym (ap (λ (t : Reply). t.answer) same) ∙ full))

-- Texts that are written one after the other.
use Rattle.std.proofs.Common.{◌∙◌, List, ℕ, ◌++◌, Option, Result, Ok, Err, OnOk, OnErr, sym, ap, append_assoc}
use Rattle.std.specs.Io.KnownBytes.{Appends}
use Rattle.std.proofs.KnownBytes.{Appends-trans}
use Rattle.vme_trace.specs.Writing.{AppendsFront}

pub on_err : {E A : Type 0} (r : Result A E) (P : Type 0) → P → OnErr r P
on_err (Ok a) P h = tt
on_err (Err e) P h = h

-- what follows of what is so at an error, and at none
pub at_err : {E A : Type 0} (r : Result A E) (P Q : Type 0) → (P → Q) → OnErr r P → OnErr r Q
at_err (Ok a) P Q f h = tt
at_err (Err e) P Q f h = f h

pub at_ok : {E A : Type 0} (r : Result A E) (P Q : Type 0) → (P → Q) → OnOk r P → OnOk r Q
at_ok (Ok a) P Q f h = f h
at_ok (Err e) P Q f h = tt

-- a front is one of more
pub front_of_more : (a b : Option (List ℕ)) (x y : List ℕ) → AppendsFront a b x → AppendsFront a b (x ++ y)
front_of_more a b x y f = (f.0, f.1 ++ y, ap (λ l. l ++ y) f.2 ∙ append_assoc f.0 f.1 y, f.3)

-- all of the first part, and then a front of the second
pub front_behind : (a b c : Option (List ℕ)) (x y : List ℕ) → Appends a b x → AppendsFront b c y → AppendsFront a c (x ++ y)
front_behind a b c x y w f =
    (x ++ f.0, f.1, ap (λ l. x ++ l) f.2 ∙ sym (append_assoc x f.0 f.1), Appends-trans a b c x f.0 w f.3)

-- a front of the first of four parts, of the second, and of the third
pub front_of_first : (a b : Option (List ℕ)) (x y z w : List ℕ) → AppendsFront a b x → AppendsFront a b (((x ++ y) ++ z) ++ w)
front_of_first a b x y z w f = front_of_more a b ((x ++ y) ++ z) w (front_of_more a b (x ++ y) z (front_of_more a b x y f))

pub front_of_second : (a b c : Option (List ℕ)) (x y z w : List ℕ) → Appends a b x → AppendsFront b c y → AppendsFront a c (((x ++ y) ++ z) ++ w)
front_of_second a b c x y z w p f = front_of_more a c ((x ++ y) ++ z) w (front_of_more a c (x ++ y) z (front_behind a b c x y p f))

pub front_of_third : (a b c d : Option (List ℕ)) (x y z w : List ℕ) → Appends a b x → Appends b c y → AppendsFront c d z → AppendsFront a d (((x ++ y) ++ z) ++ w)
front_of_third a b c d x y z w p q f = front_of_more a d ((x ++ y) ++ z) w (front_behind a c d (x ++ y) z (Appends-trans a b c x y p q) f)

-- all of three
pub all_three : (a b c d : Option (List ℕ)) (x y z : List ℕ) → Appends a b x → Appends b c y → Appends c d z → Appends a d ((x ++ y) ++ z)
all_three a b c d x y z p q r = Appends-trans a c d (x ++ y) z (Appends-trans a b c x y p q) r

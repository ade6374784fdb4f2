-- What the getters of a parse give, by the rows that it found.
use Rattle.std.proofs.Common.{◌≡◌, ◌∙◌, ℕ, List, Bool, true, false, Option, Some, None, Result, Ok, Err, codes, map, option_map, refl, sym, ap, subst, unwrap_or}
use Rattle.std.specs.Str.Parse.{ParsesBool, ParsesUnsigned, digits_value, without_leading_plus}
use Rattle.std.specs.Borrow.{Bor}
use Rattle.clap.specs.Words.{ReadsOne, TriesOne, Text, all_of, first_of, first_value, matched_of, one_text, raw_values, rows_of}
use Rattle.clap.specs.declared.parser.matches.Found.{Found}
use Rattle.clap.proofs.WalkLemmas.{first_value-rows, one_text-rows, raw_values-rows}
use Rattle.vme_command_line.specs.Asked.{IsFlag, spelled}

pub text_read : (f : Found) (id : Text) (r : Option (Bor Text)) → option_map (λ s. s.now) r ≡ first_value f id
    → option_map (λ s. s.now) r ≡ first_of id (rows_of f)
text_read f id r e = e ∙ first_value-rows f id

pub files_read : (f : Found) (id : Text) (r : Option (Bor (List (Bor Text)))) → option_map (λ s. map (λ v. v.now) s.now) r ≡ option_map raw_values (matched_of f id)
    → option_map (λ s. map (λ v. v.now) s.now) r ≡ all_of id (rows_of f)
files_read f id r e = e ∙ raw_values-rows f id

spelled_text : (f : Found) (id t : Text) → one_text f id ≡ Some t → spelled id (rows_of f) ≡ Some (digits_value 10 (without_leading_plus t))
spelled_text f id t e = ap (option_map (λ u. digits_value 10 (without_leading_plus u))) (sym (one_text-rows f id) ∙ e)

read : {E : Type 0} (G : List ℕ → Result ℕ E → Type 0) (k : ℕ) (t : Text) (r : Option ℕ) (n : ℕ)
    → ((u : List ℕ) (x : Result ℕ E) → G u x → ParsesUnsigned k 10 u x) → ReadsOne G t r → r ≡ Some n → n ≡ digits_value 10 (without_leading_plus t)
read G k t None n parses reads is = cc
read G k t (Some m) n parses reads is = some_is m n is ∙ (parses t (Ok m) reads).1
  where
    some_is : (a b : ℕ) → Some a ≡ Some b → b ≡ a
    some_is a b e = ap (λ o. unwrap_or o a) (sym e)

pub number_read : {E : Type 0} (G : List ℕ → Result ℕ E → Type 0) (k : ℕ) (f : Found) (id : Text) (r : Option ℕ) (n : ℕ)
    → ((u : List ℕ) (x : Result ℕ E) → G u x → ParsesUnsigned k 10 u x)
    → (one_text f id ≡ None → r ≡ None) → ((t : List ℕ) → one_text f id ≡ Some t → ReadsOne G t r) → r ≡ Some n → spelled id (rows_of f) ≡ Some n
number_read G k f id r n parses none value is = go (one_text f id) refl
  where
    go : (o : Option Text) → one_text f id ≡ o → spelled id (rows_of f) ≡ Some n
    go None e =
        let missing : r ≡ None = none e in
        cc
    go (Some t) e = spelled_text f id t e ∙ ap Some (sym (read G k t r n parses (value t e) is))

-- a whole number that may be left out
pub whole_read : {E : Type 0} (G : List ℕ → Result ℕ E → Type 0) (k : ℕ) (f : Found) (id : Text) (r : Result (Option ℕ) E) (whole : Option ℕ)
    → ((u : List ℕ) (x : Result ℕ E) → G u x → ParsesUnsigned k 10 u x)
    → (one_text f id ≡ None → r ≡ Ok None) → ((t : List ℕ) → one_text f id ≡ Some t → TriesOne G t r) → r ≡ Ok whole → spelled id (rows_of f) ≡ whole
whole_read {E = E} G k f id r whole parses none value is = go (one_text f id) refl
  where
    answers : (t : Text) (p : Option ℕ) → TriesOne G t (Ok p) → Some (digits_value 10 (without_leading_plus t)) ≡ p
    answers t None tries = absurd tries
    answers t (Some m) tries = ap Some (sym (parses t (Ok m) tries).1)

    go : (o : Option Text) → one_text f id ≡ o → spelled id (rows_of f) ≡ whole
    go None e =
        let missing : r ≡ Ok None = none e in
        let left_out : spelled id (rows_of f) ≡ None = ap (option_map (λ u. digits_value 10 (without_leading_plus u))) (sym (one_text-rows f id) ∙ e) in
        left_out ∙ cc
    go (Some t) e = spelled_text f id t e ∙ answers t whole (subst (λ (x : Result (Option ℕ) E). TriesOne G t x) is (value t e))

some_is : (a b : Text) → Some a ≡ Some b → a ≡ b
some_is a b e = ap (λ o. unwrap_or o a) e

pub flag_read : {E : Type 0} (G : List ℕ → Result Bool E → Type 0) (f : Found) (id : Text) (r : Option Bool)
    → ((u : List ℕ) (x : Result Bool E) → G u x → ParsesBool u x)
    → (one_text f id ≡ None → r ≡ None) → ((t : List ℕ) → one_text f id ≡ Some t → ReadsOne G t r) → IsFlag id (rows_of f) (unwrap_or r false)
flag_read G f id r parses none value = go (one_text f id) refl
  where
    reads : (t : Text) (q : Option Bool) → ReadsOne G t q → one_text f id ≡ Some t → IsFlag id (rows_of f) (unwrap_or q false)
    reads t None why e = (λ is. cc, λ is. absurd ((parses t (Err why.0) why.1).0 (some_is t (codes "true") (sym e ∙ one_text-rows f id ∙ is))))
    reads t (Some true) is e = (λ given. sym (one_text-rows f id) ∙ e ∙ ap Some (parses t (Ok true) is), λ given. refl)
    reads t (Some false) is e = (
      λ given. cc,
      λ given.
          let both : codes "false" ≡ codes "true" = sym (parses t (Ok false) is) ∙ some_is t (codes "true") (sym e ∙ one_text-rows f id ∙ given) in cc,
    )

    go : (o : Option Text) → one_text f id ≡ o → IsFlag id (rows_of f) (unwrap_or r false)
    go None e = subst (λ (q : Option Bool). IsFlag id (rows_of f) (unwrap_or q false)) (sym (none e))
        (λ given. cc, λ given. let both : None ≡ Some (codes "true") = sym e ∙ one_text-rows f id ∙ given in cc)
    go (Some t) e = reads t r (value t e) e

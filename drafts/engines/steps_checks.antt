
-- ---- check

-- What the edges of a piece do to a check: `more` is what the read answered.
abbrev pub ChecksPiece : State → ℕ → List Edge → Result Bool Fault → Option (List ℕ) → Option (List ℕ) → State → ℕ → Result (Option Status) Fault → Type 0
ChecksPiece b judged es more old new b' judged' (Ok None) =
    (more ≡ Ok true) × (first_refusal (judged + 1) b es ≡ None) × Keeps old new × (b' ≡ kept b es) × (judged' ≡ judged + length es)
ChecksPiece b judged es more old new b' judged' (Ok (Some SomeRefused)) =
    (x : ℕ × Refused) × (first_refusal (judged + 1) b es ≡ Some x) × Appends old new (finding (Some x) 0)
ChecksPiece b judged es more old new b' judged' (Ok (Some Done)) =
    (more ≡ Ok false) × (first_refusal (judged + 1) b es ≡ None) × Appends old new (finding None (judged + length es))
ChecksPiece b judged es more old new b' judged' (Ok (Some Limit)) = ⊥
ChecksPiece b judged es more old new b' judged' (Err f) =
    ((more ≡ Err f) × (first_refusal (judged + 1) b es ≡ None) × Keeps old new)
    ⊎ ((f ≡ Write) × FindsLess (first_refusal (judged + 1) b es) more old new (judged + length es))

-- only a front of what was found was written
abbrev pub FindsLess : Option (ℕ × Refused) → Result Bool Fault → Option (List ℕ) → Option (List ℕ) → ℕ → Type 0
FindsLess (Some x) more old new count = AppendsFront old new (finding (Some x) 0)
FindsLess None more old new count = (more ≡ Ok false) × AppendsFront old new (finding None count)

-- A check that goes on behind a first read leaves that of the whole trace.
abbrev pub ChecksOn : State → trace.State → List Edge → Result Bool Fault → ℕ → Option (List ℕ) → Option (List ℕ) → Option (List ℕ) → Option (List ℕ) → Result Status Fault → Type 0
ChecksOn b reader es first left at to old new result =
    (p : Plan) (version : Version) (from : Option (List ℕ)) → b ≡ bench p version → reader.version ≡ Some version
    → Comes from at [] [] left reader es first
    → (rest : List ℕ) × IsInput from rest × Checks p rest (streams from to old new) (traced result)

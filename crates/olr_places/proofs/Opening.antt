-- Which matchings open a place, with one matching more, and the place that each belongs to.
use Rattle.olr_places.proofs.Common.{belongs, is_close_to, openers_of, openers_on, place_of, Entry, PlaceLimits, ◌≡◌, ◌+◌, ◌<◌, Bool, true, false, List, [], ◌∷◌, ◌++◌, length, All, refl, sym, ◌∙◌, inl, inr, arith, if◌then◌else◌, append_assoc, list_any, position_or_len, cases_Bool, false≢true, ne_eqb, append-nil, All-nil, All-cons, All-weaker, list_any-append, position_or_len_push, ground_of}
use Rattle.olr_places.proofs.CloseLaws.{reflexive, tests}

-- whether one passes, by the place of the first one
module _ {X : Type 0} (p : X → Bool) where
  pub first_within : (xs : List X) → list_any p xs ≡ true → position_or_len p xs < length xs
  first_within [] some = absurd (false≢true some)
  first_within (x ∷ xs) some = elim (cases_Bool (p x)) [
    | inl passes ↦
        let here : position_or_len p (x ∷ xs) ≡ 0 = rw passes refl in
        omega arith
    | inr fails ↦
        let later : position_or_len p (x ∷ xs) ≡ 1 + position_or_len p xs = rw fails refl in
        omega (arith, first_within xs (rw fails at some))
  ]

  pub first_stays : (xs : List X) (y : X) → position_or_len p xs < length xs
      → position_or_len p (xs ++ y ∷ []) ≡ position_or_len p xs
  first_stays xs y within = grind (arith, ne_eqb, position_or_len_push)

  pub first_behind : (xs : List X) (y : X) → list_any p xs ≡ false → p y ≡ true
      → position_or_len p (xs ++ y ∷ []) ≡ length xs
  first_behind [] y none passes = rw passes refl
  first_behind (x ∷ xs) y none passes = elim (cases_Bool (p x)) [
    | inl here ↦ absurd (false≢true (sym (rw here at none)))
    | inr fails ↦ rw (fails, first_behind xs y (rw fails at none) passes) (omega arith)
  ]

module _ (limits : PlaceLimits) where
  pub close_itself : (entry : Entry) → is_close_to limits entry entry ≡ true
  close_itself entry = (tests limits.apart (ground_of entry.located) (ground_of entry.located)).1
      (reflexive limits.apart (ground_of entry.located))

  -- ---- one matching more

  -- openers with the next matching
  abbrev pub opened : List Entry → Entry → List Entry
  opened openers entry = if belongs limits openers entry then openers else openers ++ entry ∷ []

  opened_on : (openers entries : List Entry) (entry : Entry)
      → openers_on limits openers (entries ++ entry ∷ [])
      ≡ opened (openers_on limits openers entries) entry
  opened_on openers [] entry = grind (arith, cases_Bool)
  opened_on openers (first ∷ entries) entry = grind (
    arith,
    cases_Bool,
    opened_on openers entries entry,
    opened_on (openers ++ first ∷ []) entries entry,
  )

  pub openers_same : (before : List Entry) (entry : Entry)
      → belongs limits (openers_of limits before) entry ≡ true
      → openers_of limits (before ++ entry ∷ []) ≡ openers_of limits before
  openers_same before entry old = opened_on [] before entry ∙ (rw old refl)

  pub openers_more : (before : List Entry) (entry : Entry)
      → belongs limits (openers_of limits before) entry ≡ false
      → openers_of limits (before ++ entry ∷ []) ≡ openers_of limits before ++ entry ∷ []
  openers_more before entry new = opened_on [] before entry ∙ (rw new refl)

  -- ---- openers stay

  -- openers before others
  pub openers_begin : (openers entries : List Entry) → (more : List Entry)
      × (openers_on limits openers entries ≡ openers ++ more)
  openers_begin openers [] = ([], sym (append-nil openers))
  openers_begin openers (entry ∷ entries) = elim (cases_Bool (belongs limits openers entry)) [
    | inl old ↦
        let rest = openers_begin openers entries in (rest.0, rw old rest.1)
    | inr new ↦
        let rest = openers_begin (openers ++ entry ∷ []) entries in (
          entry ∷ rest.0,
          rw new (rest.1 ∙ append_assoc openers (entry ∷ []) rest.0),
        )
  ]

  -- the first matching opens the first place
  pub first_opens : (first : Entry) (others : List Entry) → (more : List Entry)
      × (openers_of limits (first ∷ others) ≡ first ∷ more)
  first_opens first others = openers_begin (first ∷ []) others

  -- a matching that belongs to a place still does with more openers
  belongs_still : (openers more : List Entry) (entry : Entry) → belongs limits openers entry ≡ true
      → belongs limits (openers ++ more) entry ≡ true
  belongs_still openers more entry old = grind (arith, list_any-append)

  -- each matching belongs to a place
  pub all_belong_on : (openers entries : List Entry)
      → All (λ (entry : Entry). belongs limits (openers_on limits openers entries) entry ≡ true)
      entries
  all_belong_on openers [] = All-nil (λ (entry : Entry). belongs limits openers entry ≡ true)
  all_belong_on openers (entry ∷ entries) = elim (cases_Bool (belongs limits openers entry)) [
    | inl old ↦
        let begin = openers_begin openers entries in
        let itself : belongs limits (openers_on limits openers entries) entry ≡ true =
        rw begin.1 (belongs_still openers begin.0 entry old) in
        rw old
        (All-cons (λ (one : Entry). belongs limits (openers_on limits openers entries) one ≡ true)
        entry entries itself (all_belong_on openers entries))
    | inr new ↦
        let with : List Entry = openers ++ entry ∷ [] in
        let begin = openers_begin with entries in
        let close = close_itself entry in
        let last : belongs limits (entry ∷ []) entry ≡ true = rw close refl in
        let here : belongs limits with entry ≡ true =
        list_any-append (is_close_to limits entry) openers (entry ∷ []) ∙ (rw (new, last) refl) in
        let itself : belongs limits (openers_on limits with entries) entry ≡ true =
        rw begin.1 (belongs_still with begin.0 entry here) in
        rw new
        (All-cons (λ (one : Entry). belongs limits (openers_on limits with entries) one ≡ true)
        entry entries itself (all_belong_on with entries))
  ]

  pub all_belong : (entries : List Entry)
      → All (λ (entry : Entry). belongs limits (openers_of limits entries) entry ≡ true) entries
  all_belong entries = all_belong_on [] entries

  -- the place of each matching is one of those that are opened
  pub all_placed : (entries : List Entry)
      → All (λ (entry : Entry). place_of limits (openers_of limits entries) entry
      < length (openers_of limits entries)) entries
  all_placed entries = grind (arith, All-weaker, first_within, all_belong)

-- From the parts of a step to the next line.
use Rattle.olr_messages.proofs.Common.{◌≡◌, ◌≢◌, ℕ, ◌+◌, ◌-◌, ◌^◌, ◌≤◌, List, [], ◌∷◌, ◌++◌, length, refl, sym, ap, ◌∙◌, append_assoc, length-append, inl, arith, Option, Some, None, Bool, true, false, ◌==◌, Contains, MatchBool, not, Consumes, IsAtEnd, Keeps, prepend_known, eqb_tells, All-append, All-contains, All-nil, one_more, HasNoLf, IsCutOff, IsGiven, IsOver, Reading, ReadsAll, ReadsLine, ReadsToLf, front_of, left_of}
use Rattle.std.proofs.KnownBytes.{Consumes-nil, Consumes-trans}
use Rattle.olr_messages.proofs.Fronts.{front_none, front_of-front_of}
use Rattle.olr_messages.proofs.FirstLine.{next_of_end, next_of_lf}

-- so much of a line is read, by so many calls of the source, each of which gave bytes
pub record HasRead (old left : Option (List ℕ)) (now : Reading) (calls : ℕ) : Type 0 where
  pub part : List ℕ
  pub consumed : Consumes old (left_of now left) part
  pub no_lf : HasNoLf part
  pub front : now.front ≡ front_of part
  pub many : calls ≤ length part + length now.at_hand

no_front : front_of [] ≡ []
unfolding front_of
no_front = refl

-- ---- what the bytes at hand, or those that a source gives, are of all that is left

hand_to_lf : {hand : List ℕ} (part rest : List ℕ) (left : Option (List ℕ))
    → hand ≡ part ++ 10 ∷ rest
    → Consumes (prepend_known hand left) (prepend_known rest left) (part ++ 10 ∷ [])
hand_to_lf part rest None split = tt
hand_to_lf part rest (Some xs) split = grind (arith, append_assoc)

all_at_hand : (hand : List ℕ) (left : Option (List ℕ))
    → Consumes (prepend_known hand left) left hand
all_at_hand hand None = tt
all_at_hand hand (Some xs) = refl

none_first : (left : Option (List ℕ)) → prepend_known [] left ≡ left
none_first None = refl
none_first (Some xs) = refl

given_first : (a b c : Option (List ℕ)) (part bytes : List ℕ) → Consumes a b part
    → Consumes b c bytes → Consumes a (prepend_known bytes c) part
given_first None b c part bytes p q = tt
given_first (Some x) None c part bytes p q = absurd p
given_first (Some x) (Some y) None part bytes p q = absurd q
given_first (Some x) (Some y) (Some z) part bytes p q = p ∙ ap (λ (l : List ℕ). part ++ l) q

keeps_nothing : (a b : Option (List ℕ)) → Keeps a b → Consumes a b []
keeps_nothing None b kept = tt
keeps_nothing (Some x) None kept = absurd kept
keeps_nothing (Some x) (Some y) kept = sym kept

by_length : (xs : List ℕ) {P Q : Type 0} → (xs ≢ [] → P) → (xs ≡ [] → Q)
    → MatchBool (not (length xs == 0)) P Q
by_length [] some none = none refl
by_length (x ∷ xs) some none = grind (arith, eqb_tells)

-- ---- the steps

pub none_read : {hand : List ℕ} {left : Option (List ℕ)} {now : Reading} → now.at_hand ≡ hand
    → now.front ≡ [] → HasRead (prepend_known hand left) left now 0
none_read same empty = grind (arith, Consumes-nil, All-nil, no_front)

module _ {a left : Option (List ℕ)} {now : Reading} {calls : ℕ} (has : HasRead a left now calls)
  where
    front_after : {front : List ℕ} (more : List ℕ) → front ≡ front_of (now.front ++ more)
        → front ≡ front_of (has.part ++ more)
    front_after more is =
        is ∙ ap (λ (m : List ℕ). front_of (m ++ more)) has.front ∙ front_of-front_of has.part more

    -- the bytes at hand have an LF
    pub line_read : {new : Reading} → ReadsToLf now new → ReadsLine a (left_of new left) new.front
    line_read reads =
        let free = All-append (λ b. b ≢ 10) has.part reads.part has.no_lf reads.no_lf in
        record {
          line = has.part ++ reads.part;
          is_next = next_of_lf _ _ _ free (rw (append_assoc has.part reads.part (10 ∷ []))
              (Consumes-trans _ _ _ _ _ has.consumed (hand_to_lf _ _ left reads.split)));
          is_front = front_after reads.part reads.front;
        }

    -- they have none
    pub all_read : {new : Reading} → ReadsAll now new → HasRead a left new calls
    all_read reads = record {
      part = has.part ++ now.at_hand;
      consumed = rw (reads.none_at_hand, none_first left)
          (Consumes-trans _ _ _ _ _ has.consumed (all_at_hand _ left));
      no_lf = All-append (λ b. b ≢ 10) has.part now.at_hand has.no_lf reads.no_lf;
      front = front_after now.at_hand reads.front;
      many = omega (arith, length-append has.part now.at_hand, has.many);
    }

    consumed_before : now.at_hand ≡ [] → Consumes a left has.part
    consumed_before empty =
        let same : left_of now left ≡ left = rw empty (none_first left) in
        rw same at has.consumed

    module _ (new : Reading) (empty : now.at_hand ≡ []) {next : Option (List ℕ)} where
      -- the source gives some more
      pub some_given : {found : Bool} → IsGiven found left next new.at_hand → found ≡ true
          → new.front ≡ now.front → HasRead a next new (calls + 1)
      some_given given some same =
          let bytes = rw some at given.cases in
          record {
            part = has.part;
            consumed = given_first _ _ _ _ _ (consumed_before empty) given.consumed;
            no_lf = has.no_lf;
            front = same ∙ has.front;
            many = omega (arith, bytes, has.many, ap length empty);
          }

      -- it gives none
      pub none_given : {found no_byte : Bool} → IsGiven found left next new.at_hand → found ≡ false
          → new.front ≡ now.front → no_byte ≡ (length new.front == 0)
          → MatchBool (not no_byte) (ReadsLine a (left_of new next) new.front)
          (IsOver a (left_of new next))
      none_given given none same is =
          let ended = rw none at given.cases in
          let consumed : Consumes a (left_of new next) has.part =
          given_first _ _ _ _ _ (consumed_before empty) given.consumed in
          let at_end : IsAtEnd (left_of new next) = rw (ended.0, none_first next) ended.1 in
          let whole = same ∙ has.front in
          rw is (by_length new.front
          (λ some. record {
            line = has.part;
            is_next = next_of_end _ _ has.no_lf
                (λ none. some (whole ∙ ap front_of none ∙ no_front)) consumed at_end;
            is_front = whole;
          })
          (λ none. record {
            none_left = rw (front_none has.part (sym whole ∙ none)) at consumed;
            at_end = at_end;
          }))

    -- it fails
    pub cut_off : (new : Reading) (next : Option (List ℕ)) {old_failed new_failed : ℕ}
        → now.at_hand ≡ [] → new.at_hand ≡ [] → Keeps left next → new_failed ≡ one_more old_failed
        → IsCutOff a (left_of new next) new.at_hand old_failed new_failed
    cut_off new next empty none kept failed = record {
      lost = has.part;
      consumed = given_first _ _ _ _ _ (consumed_before empty) (rw none (keeps_nothing _ _ kept));
      no_lf = has.no_lf;
      cause = inl failed;
    }

-- no further call is made
pub endless : {a left : Option (List ℕ)} {now : Reading} {calls old_failed new_failed : ℕ}
    → HasRead a left now calls → 2 ^ 64 - 1 ≤ calls → new_failed ≡ old_failed
    → IsCutOff a (left_of now left) now.at_hand old_failed new_failed
endless has most same = grind arith

-- ---- a line that is at hand as a whole

pub line_of_hand : {hand : List ℕ} {now new : Reading} → ReadsToLf now new → now.at_hand ≡ hand
    → now.front ≡ [] → ReadsLine (Some hand) (Some new.at_hand) new.front
line_of_hand {hand} {now} {new} reads same empty = record {
  line = reads.part;
  is_next = next_of_lf _ (Some hand) (Some new.at_hand) reads.no_lf
      (sym same ∙ reads.split ∙ sym (append_assoc reads.part (10 ∷ []) new.at_hand));
  is_front = reads.front ∙ ap (λ (l : List ℕ). front_of (l ++ reads.part)) empty;
}

pub not_all : {hand : List ℕ} {now new : Reading} → ReadsAll now new → now.at_hand ≡ hand
    → Contains hand 10 → ⊥
not_all {hand} reads same has = grind (arith, All-contains)

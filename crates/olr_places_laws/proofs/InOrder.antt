-- Matchings by rising totals, as their keys rise.
use Rattle.olr_places_laws.proofs.Common.{IsBefore, KeyValue, Entry, keys_of, zero, suc, ◌≤◌, List, [], ◌∷◌, ◌++◌, get_or, All, inl, inr, arith, AllPairs, All-cons, All-head, All-nil, All-tail}

-- matchings by rising totals
abbrev pub Rise : List Entry → Type 0
Rise [] = Unit {0}
Rise (entry ∷ entries) = All (λ (one : Entry). entry.key.total ≤ one.key.total) entries
    × Rise entries

-- ---- keys of matchings, and of those that are left

not_above : (a b : KeyValue) → IsBefore a b → a.total ≤ b.total
not_above a b is = elim is [
  | inl less ↦ omega arith
  | inr same ↦ omega arith
]

ahead : (key : KeyValue) (keys : List KeyValue) → AllPairs IsBefore (key ∷ keys)
    → All (λ (other : KeyValue). key.total ≤ other.total) keys
ahead key keys pairs = λ k d inside. not_above key (get_or keys k d)
    (pairs zero (suc k) d (omega arith) (omega arith))

behind : (key : KeyValue) (keys : List KeyValue) → AllPairs IsBefore (key ∷ keys)
    → AllPairs IsBefore keys
behind key keys pairs = λ i j d less inside. pairs (suc i) (suc j) d (omega arith)
    (omega arith)

all_front : (P : KeyValue → Type 0) (entries : List Entry) (left : List KeyValue)
    → All P (keys_of entries ++ left)
    → All (λ (entry : Entry). P entry.key) entries
all_front P [] left all = All-nil (λ (entry : Entry). P entry.key)
all_front P (entry ∷ entries) left all =
    All-cons (λ (one : Entry). P one.key) entry entries
    (All-head P entry.key (keys_of entries ++ left) all)
    (all_front P entries left (All-tail P entry.key (keys_of entries ++ left) all))

all_left : (P : KeyValue → Type 0) (entries : List Entry) (left : List KeyValue)
    → All P (keys_of entries ++ left) → All P left
all_left P [] left all = all
all_left P (entry ∷ entries) left all =
    all_left P entries left (All-tail P entry.key (keys_of entries ++ left) all)

pub rise_of : (entries : List Entry) (left : List KeyValue)
    → AllPairs IsBefore (keys_of entries ++ left) → Rise entries
rise_of [] left pairs = tt
rise_of (entry ∷ entries) left pairs =
    let keys = keys_of entries ++ left in (
      all_front (λ (key : KeyValue). entry.key.total ≤ key.total) _ left
          (ahead entry.key keys pairs),
      rise_of entries left (behind entry.key keys pairs),
    )

-- no key that is left has a lesser total than a matching
abbrev pub NotBelow : List KeyValue → Entry → Type 0
NotBelow left entry = All (λ (key : KeyValue). entry.key.total ≤ key.total) left

pub left_not_below : (entries : List Entry) (left : List KeyValue)
    → AllPairs IsBefore (keys_of entries ++ left) → All (NotBelow left) entries
left_not_below [] left pairs = All-nil (NotBelow left)
left_not_below (entry ∷ entries) left pairs =
    let keys = keys_of entries ++ left in
    All-cons (NotBelow left) entry entries
    (all_left (λ (key : KeyValue). entry.key.total ≤ key.total) entries _
    (ahead entry.key keys pairs))
    (left_not_below entries left (behind entry.key keys pairs))

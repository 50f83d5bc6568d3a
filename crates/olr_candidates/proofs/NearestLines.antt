-- The nearest of the lines that were tested, and those of all lines.
use Rattle.std.proofs.lemmas.List.FromFn.{length-range_with_len, get_or-range_with_len}
use Rattle.olr_candidates.proofs.Common.{Coordinates, Point, RoadLine, NearLine, Query, Tolerances, here, further, no_longer, ◌≡◌, ◌≢◌, Bool, ℕ, ◌+◌, ◌-◌, ◌*◌, ◌<◌, ◌≤◌, List, [], ◌∷◌, ◌++◌, length, get_or, take, drop, All, inl, inr, sym, ◌∙◌, subst, arith, length-append, ◌⊎◌, AllPairs, Contains, min, insert, range_with_len, cases_lt, length-take, get_or-take, get_or_default, take-append-le, length-insert, All-append, All-cons, All-drop, All-nil, All-take, All-weaker, Contains-permutation, IsPermutation-insert, get_or_from_slice_get, slice_get_within, NearIsOfLines, NearestAreInOrderOfIds, NearestAreNear, OneListOfNearest, AreNearest, IsNearer, IsOneNear, AnswersNearest, AreNearestAmong, AreNearestWithin, FindsNear, IsAmong, IsBehindLast, Keeps, AreFirst, same_beginning}
use Rattle.olr_candidates.proofs.ByNumbers.{not_before, one_way, through}
use Rattle.olr_candidates.proofs.InOrder.{inserted}
use Rattle.olr_candidates.proofs.LineCandidates.{OneProjection}
use Rattle.olr_candidates.proofs.NearLines.{one_near}
use Rattle.olr_candidates.proofs.PointLaws.{lesser_id}
use Rattle.olr_candidates.proofs.SeenLines.{one_seen, still_seen, now_seen}

-- ---- the beginning of a list in order

-- what is cut off comes after all that is kept
cut : {X : Type 0} (R : X → X → Type 0) (xs : List X) (count : ℕ) (x : X) → AllPairs R xs
    → Contains xs x
    → Contains (take count xs) x ⊎ ((count ≤ length (take count xs))
    × All (λ y. R y x) (take count xs))
cut {X} R xs count x rise (k, inside, is) = elim (cases_lt k count) [
  | inl less ↦ inl (k, omega (arith, length-take count xs), get_or-take count xs k x less ∙ is)
  | inr no_less ↦ inr (
    omega (arith, length-take count xs),
    λ j d within.
        let lt : j < count = omega (arith, length-take count xs) in
        let before = rise j k d (omega arith) inside in
        rw (get_or-take count xs j d lt) (rw (← (get_or_default xs k d x inside ∙ is)) before),
  )
]

taken_rise : {X : Type 0} (R : X → X → Type 0) (xs : List X) (count : ℕ) → AllPairs R xs
    → AllPairs R (take count xs)
taken_rise {X} R xs count rise i j d lt inside = grind (arith, length-take, get_or-take)

all_inserted : {X : Type 0} (P : X → Type 0) (xs : List X) (i : ℕ) (y : X) → P y → All P xs
    → All P (insert xs i y)
all_inserted P xs i y one all =
    All-append P _ _ (All-take P i _ all) (All-cons P y _ one (All-drop P i _ all))

contains_inserted : {X : Type 0} (xs : List X) (i : ℕ) (y x : X) → Contains (y ∷ xs) x
    → Contains (insert xs i y) x
contains_inserted xs i y x is = Contains-permutation _ _ x (IsPermutation-insert _ i y) is

near_through : (a b c : NearLine) → IsNearer a b → IsNearer b c → IsNearer a c
near_through = through _ _

near_one_way : (a b : NearLine) → IsNearer a b → IsNearer b a → ⊥
near_one_way = one_way _ _

-- ---- no more ranks than lines

no_more : (n : ℕ) (ranks : List ℕ) → AllPairs (λ a b. a ≢ b) ranks → All (λ rank. rank < n) ranks
    → length ranks ≤ n
no_more n ranks once known = omega (
  arith,
  length-range_with_len 0 n,
  no_longer _ (range_with_len 0 n) once (λ k d inside. (
    get_or ranks k d,
    omega (arith, length-range_with_len 0 n),
    omega (
      arith,
      get_or-range_with_len 0 n (get_or ranks k d) (get_or ranks k d) (known k d inside),
    ),
  )),
)

-- just the ranks below n, each once
pub record AreFirstRanks (n : ℕ) (ranks : List ℕ) : Type 0 where
  pub counted : length ranks ≡ n
  pub only : (rank : ℕ) → Contains ranks rank → rank < n
  pub each : (rank : ℕ) → rank < n → Contains ranks rank

pub next_rank : (n : ℕ) (ranks : List ℕ) → AreFirstRanks n ranks
    → AreFirstRanks (n + 1) (ranks ++ n ∷ [])
next_rank n ranks are = record {
  counted = omega (arith, length-append ranks (n ∷ []));
  only = λ rank is. elim (one_seen _ n is) [
    | inl before ↦ omega (arith, are.only rank before)
    | inr same ↦ omega arith
  ];
  each = λ rank less. elim (cases_lt rank n) [
    | inl lower ↦ still_seen _ n _ (are.each rank lower)
    | inr no_lower ↦ let same : n ≡ rank = omega arith in rw (← same) (now_seen _ n)
  ];
}

-- ---- the lines that were tested

module _ (query : Query) (lines : List RoadLine) where
  -- none
  pub none_nearest : (count : ℕ) → AreNearestAmong query lines [] count []
  none_nearest count = grind (arith, All-nil)

  -- one more that is farther away than the last of so many
  pub nearest_still : (seen : List ℕ) (rank count : ℕ) (old : List NearLine)
      → AreNearestAmong query lines seen count old → IsBehindLast query lines rank count old
      → AreNearestAmong query lines (seen ++ rank ∷ []) count old
  nearest_still seen rank count old so_far is = record {
    only = All-weaker (IsAmong query _ seen) (IsAmong query _ (seen ++ rank ∷ []))
        (λ near among. (still_seen seen rank near.line among.0, among.1)) old so_far.only;
    rise = so_far.rise;
    counted = omega (arith, length-append seen (rank ∷ []));
    others = λ near among. elim (one_seen _ _ among.0) [
      | inl before ↦ so_far.others near (before, among.1)
      | inr same ↦
          let farther = is.behind near (rw (← same) among.1) in
          inr (omega arith, λ k d inside. inl (omega (arith, up_to_last k d inside)))
    ];
  } where
    up_to_last : (k : ℕ) (d : NearLine) → k < length old
        → (get_or old k d).distance ≤ is.last.distance
    up_to_last k d inside =
        let at : get_or old (length old - 1) d ≡ is.last =
        get_or_from_slice_get old _ _ d is.last_is in
        let at_last : (get_or old (length old - 1) d).distance ≡ is.last.distance = cc in
        elim (cases_lt k (length old - 1)) [
          | inl less ↦ elim (so_far.rise k (length old - 1) d less (omega arith)) [
            | inl nearer ↦ omega arith
            | inr alike ↦ omega arith
          ]
          | inr no_less ↦
              let same : length old - 1 ≡ k = omega arith in
              let here : (get_or old k d).distance ≡ is.last.distance = rw (← same) at_last in
              omega arith
        ]

  -- one more
  module _ (one : OneProjection) (seen : List ℕ) (rank count : ℕ) (old : List NearLine)
      (next : NearLine) (so_far : AreNearestAmong query lines seen count old)
      (unseen : Contains seen rank → ⊥) (is : FindsNear query lines rank next) where
    differ : (other : NearLine) → IsAmong query lines seen other → other.line ≢ next.line
    differ other among same = unseen (subst (λ r. Contains seen r) (cc) among.0)

    among_still : (other : NearLine) → IsAmong query lines seen other
        → IsAmong query lines (seen ++ rank ∷ []) other
    among_still other among = (still_seen _ _ _ among.0, among.1)

    among_now : IsAmong query lines (seen ++ rank ∷ []) next
    among_now = (
      subst (λ r. Contains (seen ++ rank ∷ []) r) (cc) (now_seen _ _),
      subst (λ r. FindsNear query lines r next) (cc) is,
    )

    is_next : (other : NearLine) → FindsNear query lines other.line other → other.line ≡ rank
        → other ≡ next
    is_next other found same = one_near one _ _ _ _ _ _ _ _
        (subst (λ (r : ℕ). FindsNear query lines r other) same found) is

    before_or_next : (other : NearLine) → IsAmong query lines (seen ++ rank ∷ []) other
        → IsAmong query lines seen other ⊎ (other ≡ next)
    before_or_next other among = elim (one_seen _ _ among.0) [
      | inl before ↦ inl (before, among.1)
      | inr same ↦ inr (is_next _ among.1 same)
    ]

    -- its place in the list
    module _ (index : ℕ) (within : index ≤ length old) (before : (d : NearLine) → 0 < index
        → IsNearer next (get_or old (index - 1) d) → ⊥)
        (behind : (k : ℕ) (d : NearLine) → index ≤ k → k < length old
        → IsNearer next (get_or old k d)) where
      before_it : (d : NearLine) → 0 < index → IsNearer (get_or old (index - 1) d) next
      before_it d positive =
          not_before (λ n. n.distance) (λ n. n.line) next (get_or old (index - 1) d)
          (λ same. differ _ (so_far.only (index - 1) d (omega arith)) (sym same))
          (before d positive)

      all_before : (k : ℕ) (d : NearLine) → k < index → IsNearer (get_or old k d) next
      all_before k d less = elim (cases_lt k (index - 1)) [
        | inl lower ↦ near_through (get_or old k d) (get_or old (index - 1) d) next
            (so_far.rise k (index - 1) d lower (omega arith)) (before_it d (omega arith))
        | inr no_lower ↦
            let same : index - 1 ≡ k = omega arith in
            rw (← same) (before_it d (omega arith))
      ]

      rises : AllPairs IsNearer (insert old index next)
      rises = inserted IsNearer _ _ _ within so_far.rise all_before behind

      -- what comes after a full list still does
      still_after : (near : NearLine) → count ≤ length old → All (λ item. IsNearer item near) old
          → All (λ item. IsNearer item near) (take count (insert old index next))
      still_after near full after =
          let Before : NearLine → Type 0 = λ item. IsNearer item near in
          elim (cases_lt index count) [
            | inl less ↦ All-take Before _ _ (all_inserted Before _ _ _
                (near_through next (get_or old index near) near
                (behind index near (omega arith) (omega arith))
                (after index near (omega arith))) after)
            | inr no_less ↦ rw (take-append-le count (take index old) (next ∷ drop index old)
                (omega (
                  arith,
                  length-take index old,
                  no_less,
                  within,
                ))) (All-take Before _ _ (All-take Before _ _ after))
          ]

      kept : AreNearestAmong query lines (seen ++ rank ∷ []) count
          (take count (insert old index next))
      kept = record {
        only = All-take (IsAmong query _ (seen ++ rank ∷ [])) _ _
            (all_inserted (IsAmong query _ (seen ++ rank ∷ [])) _ _ _ among_now
            (All-weaker _ _ among_still _ so_far.only));
        rise = taken_rise IsNearer _ _ rises;
        counted = omega (
          arith,
          length-take count (insert old index next),
          length-insert old index next within,
          length-append seen (rank ∷ []),
        );
        others = λ near among. elim (before_or_next _ among) [
          | inl earlier ↦ elim (so_far.others near earlier) [
            | inl there ↦ cut IsNearer _ _ _ rises (contains_inserted _ _ _ _ (further _ _ _ there))
            | inr after ↦ inr (
              omega (
                arith,
                length-take count (insert old index next),
                length-insert old index next within,
              ),
              still_after near after.0 after.1,
            )
          ]
          | inr same ↦ cut IsNearer _ _ _ rises (rw same (contains_inserted _ _ _ _ (here _ _)))
        ];
      }

    pub nearest_more : (new : List NearLine) → Keeps old next count new
        → AreNearestAmong query lines (seen ++ rank ∷ []) count new
    nearest_more new keeps =
        subst (λ l. AreNearestAmong query lines (seen ++ rank ∷ []) count l) (cc)
        (kept keeps.index keeps.within keeps.before keeps.behind)

  -- ---- all lines

  -- what was not tested comes after the nearest of what was
  answers : (ranks : List ℕ) (count : ℕ) (nearest : List NearLine)
      → AreNearestAmong query lines ranks count nearest
      → min count (length ranks) ≡ min count (length lines)
      → ((near : NearLine) → FindsNear query lines near.line near
      → Contains ranks near.line ⊎ All (λ item. IsNearer item near) nearest)
      → AnswersNearest query lines count nearest
  answers ranks count nearest among counted reached = record {
    only = All-weaker (IsAmong query _ ranks) (IsOneNear _ _ _ _ _)
        (λ near is. (near.line, is.1)) nearest among.only;
    rise = among.rise;
    counted = cc;
    others = λ near is.
        let found : FindsNear query _ near.line near =
        subst (λ r. FindsNear query _ r near) (cc) is.1 in
        elim (reached near found) [
          | inl tested ↦ elim (among.others near (tested, found)) [
            | inl there ↦ inl there
            | inr after ↦ inr after.1
          ]
          | inr after ↦ inr after
        ];
  }

  -- so many of the lines around the point lie within the radius
  pub nearest_within : (radius count : ℕ) (nearest : List NearLine)
      → AreNearestWithin query lines radius count nearest → length nearest ≡ count
      → All (λ near. near.distance ≤ 100 * radius) nearest
      → AnswersNearest query lines count nearest
  nearest_within radius count nearest (ranks, covers, among) full inside =
      let few : length ranks ≤ length lines = no_more _ _ covers.once covers.known in
      answers _ _ _ among (omega arith)
      (λ near found. elim (cases_lt (100 * radius) near.distance) [
        | inl beyond ↦ inr (λ k d lt. inl (omega (arith, inside k d lt)))
        | inr no_further ↦ inl (covers.each near.line found.2.projection
            (found.0, found.1, found.2.is_projection)
            (omega (arith, no_further, found.2.describes.distance_is)))
      ])

  -- every line was tested
  pub nearest_of_all : (ranks : List ℕ) (count : ℕ) (nearest : List NearLine)
      → AreNearestAmong query lines ranks count nearest → length ranks ≡ length lines
      → ((rank : ℕ) → rank < length lines → Contains ranks rank)
      → AnswersNearest query lines count nearest
  nearest_of_all ranks count nearest among counted each =
      answers _ _ _ among (cc) (λ near found. inl
      (each near.line (slice_get_within lines near.line found.0 found.1)))

-- ---- one list

first_of : {tolerances : Tolerances} {origin : Coordinates} {point : Point} {is_last : Bool}
    {lines : List RoadLine} {count : ℕ} {nearest : List NearLine}
    → AreNearest tolerances origin point is_last lines count nearest
    → AreFirst IsNearer near_one_way (IsOneNear tolerances origin point is_last lines) nearest
first_of are = record { only = are.only; rise = are.rise; others = are.others }

one_nearest : {tolerances : Tolerances} {origin : Coordinates} {point : Point} {is_last : Bool}
    {lines : List RoadLine} {count : ℕ} {a b : List NearLine}
    → AreNearest tolerances origin point is_last lines count a
    → AreNearest tolerances origin point is_last lines count b → a ≡ b
one_nearest is other = same_beginning _ _ _ _ _ (cc) (first_of is) (first_of other)

pub one_list_of_nearest : OneListOfNearest
one_list_of_nearest tolerances reference lines index count a b is other =
    let first : other.first ≡ is.first = cc in
    let point : other.point ≡ is.point = cc in
    one_nearest is.just (rw (← first, ← point) other.just)

-- ---- the lines of the list

pub nearest_are_near : NearestAreNear
nearest_are_near tolerances reference lines index count nearest are k d inside =
    let item = get_or nearest k d in
    let is = are.just.only k d inside in
    record {
      first = are.first;
      point = are.point;
      first_is = are.first_is;
      point_is = are.point_is;
      just = let rank : is.0 ≡ item.line = cc in rw (← rank) is.1;
    }

pub near_is_of_lines : NearIsOfLines
near_is_of_lines tolerances reference lines index rank near is =
    (is.just.2.describes.line_is, slice_get_within lines rank is.just.0 is.just.1)

pub nearest_in_order : NearestAreInOrderOfIds
nearest_in_order tolerances reference road index count nearest sound are i j d less inside first
    second at_first at_second = elim (are.just.rise i j d less inside) [
      | inl distance ↦ inl distance
      | inr line ↦ inr (
        line.0,
        lesser_id road.lines sound.lines.rise (get_or nearest i d).line
            (get_or nearest j d).line first second line.1 at_first at_second,
      )
    ]

-- A piece added to the end of joined pieces.
use Rattle.std.proofs.lemmas.List.Concat.{flat_map-append}
use Rattle.olr_report.proofs.Common.{Piece, Step, steps_in, steps_of, ◌≡◌, ℕ, ◌+◌, ◌-◌, ◌<◌, ◌≤◌, Some, List, [], ◌∷◌, ◌++◌, length, take, get_or, set, refl, sym, ◌∙◌, append_assoc, arith, flat_map, All-nil, All-pop, All-push, AreApart, IsJoined, IsNotEmpty, IsRouteOver, Touches, append-nil, flat_map_more, length-set, take_all, take_more, take_more_set}
use Rattle.olr_report.proofs.StepLists.{touching_steps}

-- ---- steps

pub steps_push : (pieces : List Piece) (piece : Piece)
    → steps_of (pieces ++ piece ∷ []) ≡ steps_of pieces ++ steps_in piece
steps_push pieces piece =
    cc (flat_map-append steps_in pieces (piece ∷ []), append-nil (steps_in piece))

-- ---- neighbours

-- the last piece gets another end
apart_longer : (front : List Piece) (last longer : Piece) → longer.line ≡ last.line
    → longer.from ≡ last.from → AreApart (front ++ last ∷ []) → AreApart (front ++ longer ∷ [])
apart_longer [] last longer line from apart = tt
apart_longer (piece ∷ []) last longer line from apart =
    (λ touch. apart.0 (record { same_line = cc; same_position = cc }), tt)
apart_longer (piece ∷ next ∷ front) last longer line from apart =
    (apart.0, apart_longer (next ∷ front) last longer line from apart.1)

apart_push : (front : List Piece) (last piece : Piece) → AreApart (front ++ last ∷ [])
    → (Touches last piece → ⊥) → AreApart (front ++ last ∷ piece ∷ [])
apart_push [] last piece apart not_touching = (not_touching, tt)
apart_push (first ∷ []) last piece apart not_touching = (apart.0, (not_touching, tt))
apart_push (first ∷ next ∷ front) last piece apart not_touching =
    (apart.0, apart_push (next ∷ front) last piece apart.1 not_touching)

-- ---- the last piece

longer_last : (front : List Piece) (last piece longer : Piece) → IsJoined (front ++ last ∷ [])
    → Touches last piece → last.from ≤ last.to → IsNotEmpty piece
    → longer.line ≡ last.line → longer.from ≡ last.from → longer.to ≡ piece.to
    → IsRouteOver (steps_of (front ++ last ∷ []) ++ steps_in piece) (front ++ longer ∷ [])
longer_last front last piece longer joined touch forwards positive line from to = record {
  joined = record {
    not_empty = All-push IsNotEmpty front longer
        (All-pop IsNotEmpty (front ++ last ∷ []) front (Some last) refl joined.not_empty).0
        (omega (arith, touch.same_position));
    apart = apart_longer front last longer line from joined.apart;
  };
  steps_are = cc (
    steps_push front longer,
    touching_steps last piece longer touch.same_line touch.same_position forwards (omega arith)
        line from to,
    append_assoc (steps_of front) (steps_in last) (steps_in piece),
    steps_push front last,
  );
}

piece_more : (front : List Piece) (last piece : Piece) → IsJoined (front ++ last ∷ [])
    → (Touches last piece → ⊥) → IsNotEmpty piece
    → IsRouteOver (steps_of (front ++ last ∷ []) ++ steps_in piece)
    ((front ++ last ∷ []) ++ piece ∷ [])
piece_more front last piece joined not_touching positive = record {
  joined = record {
    not_empty = All-push IsNotEmpty (front ++ last ∷ []) piece joined.not_empty positive;
    apart = rw (append_assoc front (last ∷ []) (piece ∷ []))
        (apart_push front last piece joined.apart not_touching);
  };
  steps_are = steps_push (front ++ last ∷ []) piece;
}

-- ---- the same for a route and what it becomes

pub appended_longer : (route front longer_route : List Piece) (last piece longer : Piece)
    → route ≡ front ++ last ∷ [] → longer_route ≡ front ++ longer ∷ [] → IsJoined route
    → Touches last piece → IsNotEmpty piece → longer.line ≡ last.line → longer.from ≡ last.from
    → longer.to ≡ piece.to → IsRouteOver (steps_of route ++ steps_in piece) longer_route
appended_longer route front longer_route last piece longer is longer_is joined touch positive line
    from to =
    let whole : IsJoined (front ++ last ∷ []) = rw (← is) joined in
    let forwards =
    (All-pop IsNotEmpty (front ++ last ∷ []) front (Some last) refl whole.not_empty).1 in
    rw is (rw longer_is (longer_last front last piece longer whole touch
    (omega (arith, forwards)) positive line from to))

pub appended_piece : (route front more : List Piece) (last piece : Piece)
    → route ≡ front ++ last ∷ [] → more ≡ (front ++ last ∷ []) ++ piece ∷ [] → IsJoined route
    → (Touches last piece → ⊥) → IsNotEmpty piece
    → IsRouteOver (steps_of route ++ steps_in piece) more
appended_piece route front more last piece is more_is joined not_touching positive =
    rw is (rw more_is (piece_more front last piece (rw (← is) joined) not_touching positive))

-- a route ends in its last piece
last_of : (route : List Piece) (last : Piece) (count : ℕ) → count ≡ length route → 0 < count
    → last ≡ get_or route (count - 1) last → route ≡ take (count - 1) route ++ last ∷ []
last_of route last count is positive at_end = cc (
  take_all (count - 1 + 1) route (omega arith),
  take_more route (count - 1) last (omega arith),
)

-- and in another one, where that is put in its place
last_put : (route : List Piece) (longer : Piece) (count : ℕ) → count ≡ length route → 0 < count
    → set route (count - 1) longer ≡ take (count - 1) route ++ longer ∷ []
last_put route longer count is positive =
    sym (take_all (count - 1 + 1) (set route (count - 1) longer)
    (omega (arith, length-set route (count - 1) longer)))
    ∙ take_more_set route (count - 1) longer (omega arith)

pub longer_at_end : (route : List Piece) (last piece : Piece) (count : ℕ) → count ≡ length route
    → 0 < count → last ≡ get_or route (count - 1) last
    → IsJoined route → Touches last piece → IsNotEmpty piece
    → IsRouteOver (steps_of route ++ steps_in piece)
    (set route (count - 1) (record { line = last.line; from = last.from; to = piece.to }))
longer_at_end route last piece count is positive at_end joined touch not_empty =
    let longer : Piece = record { line = last.line; from = last.from; to = piece.to } in
    appended_longer route (take (count - 1) route) (set route (count - 1) longer) last piece longer
    (last_of route last count is positive at_end)
    (last_put route longer count is positive) joined touch not_empty refl refl refl

-- the last piece put in its own place, and one more behind it
pub piece_at_end : (route more : List Piece) (last piece : Piece) (count : ℕ) → count ≡ length route
    → 0 < count
    → last ≡ get_or route (count - 1) last → more ≡ set route (count - 1) last ++ piece ∷ []
    → IsJoined route → (Touches last piece → ⊥)
    → IsNotEmpty piece → IsRouteOver (steps_of route ++ steps_in piece) more
piece_at_end route more last piece count is positive at_end more_is joined not_touching not_empty =
    appended_piece route (take (count - 1) route) more last piece
    (last_of route last count is positive at_end)
    (cc (last_put route last count is positive)) joined not_touching not_empty

pub first_piece : (route more : List Piece) (piece : Piece) → length route ≡ 0
    → more ≡ route ++ piece ∷ [] → IsNotEmpty piece
    → IsRouteOver (steps_of route ++ steps_in piece) more
first_piece [] more piece none more_is not_empty = rw more_is (record {
  joined = record {
    not_empty = All-push IsNotEmpty [] piece (All-nil IsNotEmpty) not_empty;
    apart = tt;
  };
  steps_are = append-nil (steps_in piece);
})
first_piece (last ∷ route) more piece none more_is not_empty = absurd (omega arith)

-- ---- pieces one after the other

pub no_pieces : (route : List Piece) → route ≡ [] → IsRouteOver [] route
no_pieces route none = rw none (record {
  joined = record { not_empty = All-nil IsNotEmpty; apart = tt };
  steps_are = refl;
})

-- the steps of one element more of a list
pub steps_taken : {X : Type 0} (steps : X → List Step) (before : List Step) (all : List X) (i : ℕ)
    (d : X) → i < length all
    → (before ++ flat_map steps (take i all)) ++ steps (get_or all i d) ≡ before
    ++ flat_map steps (take (i + 1) all)
steps_taken {X = X} steps before all i d inside =
    cc (flat_map_more steps before (take i all) (get_or all i d), take_more all i d inside)

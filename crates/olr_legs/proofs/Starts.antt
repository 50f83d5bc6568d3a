-- The starts of stretches, gathered piece by piece.
use Rattle.std.proofs.Common.{◌≡◌, ℕ, ◌+◌, ◌-◌, ◌<◌, List, [], ◌∷◌, ◌++◌, take, sym, ap, subst, ◌∙◌, inl, inr, arith, get_or}
use Rattle.std.proofs.lemmas.Bool.{cases_eq}
use Rattle.std.proofs.lemmas.List.Elements.{Contains-append_left, Contains-append_right}
use Rattle.std.proofs.lemmas.Option.{get_or_from_slice_get}
use Rattle.std.specs.Prelude.{Contains}
use Rattle.std.specs.List.{sum_by}
use Rattle.olr_road.specs.declared.place.Place.{Place}
use Rattle.olr_route.specs.Walk.{piece_length}
use Rattle.olr_route.specs.declared.piece.Piece.{Piece}
use Rattle.olr_legs.specs.Stretches.{IsBeginOn, IsStart}

-- ---- one piece

pub kept_by_push : (starts : List ℕ) (start other : ℕ) → Contains starts other
    → Contains (starts ++ start ∷ []) other
kept_by_push starts start other has = Contains-append_left starts (start ∷ []) other has

pub last_of_push : (starts : List ℕ) (start other : ℕ) → start ≡ other
    → Contains (starts ++ start ∷ []) other
last_of_push starts start other same =
    Contains-append_right starts (start ∷ []) other (0, omega arith, same)

-- where the place isn't within the piece, there is one begin
pub first_begin : (starts : List ℕ) (to : Place) (piece : Piece) (start : ℕ)
    → (piece.line ≡ to.line → piece.from < to.at → to.at < piece.to → ⊥) → (at : ℕ)
    → IsBeginOn to piece at → Contains (starts ++ start ∷ []) (start + (at - piece.from))
first_begin starts to piece start outside at (inl same) =
    last_of_push starts start (start + (at - piece.from)) (omega (arith, same))
first_begin starts to piece start outside at (inr on) = absurd (outside on.0 on.2 on.3)

-- else there are two
pub both_begins : (starts : List ℕ) (to : Place) (piece : Piece) (start : ℕ) (at : ℕ)
    → IsBeginOn to piece at
    → Contains ((starts ++ start ∷ []) ++ (start + (to.at - piece.from)) ∷ [])
    (start + (at - piece.from))
both_begins starts to piece start at (inl same) =
    kept_by_push (starts ++ start ∷ []) (start + (to.at - piece.from)) (start + (at - piece.from))
    (last_of_push starts start (start + (at - piece.from)) (omega (arith, same)))
both_begins starts to piece start at (inr on) =
    last_of_push (starts ++ start ∷ []) (start + (to.at - piece.from)) (start + (at - piece.from))
    (omega (arith, on.1))

-- ---- all pieces

-- the starts on the pieces so far, and those on the next one
pub more_starts : (to : Place) (route : List Piece) (index : ℕ) (d : Piece) (so_far : ℕ)
    (before after : List ℕ) → so_far ≡ sum_by piece_length (take index route)
    → ((start : ℕ) → (is : IsStart to route start) → is.index < index → Contains before start)
    → ((other : ℕ) → Contains before other → Contains after other)
    → ((at : ℕ) → IsBeginOn to (get_or route index d) at
    → Contains after (so_far + (at - (get_or route index d).from)))
    → (start : ℕ) → (is : IsStart to route start) → is.index < index + 1 → Contains after start
more_starts to route index d so_far before after sum found kept begins start is less =
    elim (cases_eq is.index index) [
      | inr earlier ↦ kept start (found start is (omega arith))
      | inl now ↦
          let one : is.piece ≡ get_or route index d =
          sym (get_or_from_slice_get route is.index is.piece d is.piece_is)
          ∙ ap (λ (k : ℕ). get_or route k d) now in
          let there : start ≡ so_far + (is.at - (get_or route index d).from) =
          is.start_is
          ∙ ap (λ (k : ℕ). sum_by piece_length (take k route) + (is.at - is.piece.from)) now
          ∙ ap (λ (piece : Piece). sum_by piece_length (take index route) + (is.at - piece.from))
          one ∙ ap (λ (sum : ℕ). sum + (is.at - (get_or route index d).from)) (sym sum) in
          subst (Contains after) (sym there)
          (begins is.at (subst (λ (piece : Piece). IsBeginOn to piece is.at) one is.begins))
    ]

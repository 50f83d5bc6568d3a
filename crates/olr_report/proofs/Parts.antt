-- A part of a route, while its pieces are gone through.
use Rattle.olr_report.proofs.Common.{IsJoined, IsRouteOver, Piece, piece_length, Step, steps_in, steps_of, ◌≡◌, ℕ, ◌+◌, ◌-◌, ◌<◌, ◌≤◌, List, [], ◌++◌, length, take, drop, get_or, ap, append_assoc, arith, append-nil, drop_all, drop_more, length-drop, length-take, nil_from_length}
use Rattle.olr_report.proofs.StepLists.{length-steps_in, part-append}

-- The joined pieces, and then the part of the rest behind its first `skip` decimetres, at most
-- `left` long, are the steps that are sought.
pub record IsPartSoFar (sought : List Step) (part rest : List Piece) (skip left : ℕ) : Type 0 where
  pub joined : IsJoined part
  pub steps_are : steps_of part ++ take left (drop skip (steps_of rest)) ≡ sought

pub part_none : (sought : List Step) (part rest : List Piece) (skip left : ℕ) → IsRouteOver [] part
    → take left (drop skip (steps_of rest)) ≡ sought → IsPartSoFar sought part rest skip left
part_none sought part rest skip left none same = record { joined = none.joined; steps_are = cc }

pub part_more : (sought : List Step) (part new pieces : List Piece) (clipped d : Piece)
    (i skip left : ℕ) → i < length pieces → IsPartSoFar sought part (drop i pieces) skip left
    → steps_in clipped ≡ take left (drop skip (steps_in (get_or pieces i d)))
    → IsRouteOver (steps_of part ++ steps_in clipped) new
    → IsPartSoFar sought new (drop (i + 1) pieces) (skip - piece_length (get_or pieces i d))
    (left - piece_length clipped)
part_more sought part new pieces clipped d i skip left inside so_far clipped_is longer =
    let here : List Step = steps_in (get_or pieces i d) in
    let rest : List Step = steps_of (drop (i + 1) pieces) in
    let split : take left (drop skip (steps_of (drop i pieces))) ≡ steps_in clipped
    ++ take (left - piece_length clipped) (drop (skip - piece_length (get_or pieces i d)) rest) =
    cc (
      drop_more pieces i d inside,
      part-append left skip here rest,
      length-steps_in (get_or pieces i d),
      length-steps_in clipped,
    ) in
    record {
      joined = longer.joined;
      steps_are = cc (append_assoc (steps_of part) (steps_in clipped)
          (take (left - piece_length clipped)
          (drop (skip - piece_length (get_or pieces i d)) rest)));
    }

-- the clipped piece is no longer than what is left
pub clipped_within : (piece clipped : Piece) (skip left : ℕ)
    → steps_in clipped ≡ take left (drop skip (steps_in piece)) → piece_length clipped ≤ left
clipped_within piece clipped skip left is = omega (
  arith,
  length-steps_in clipped,
  ap length is,
  length-take left (drop skip (steps_in piece)),
)

none_left : (left skip : ℕ) → take left (drop skip (steps_of [])) ≡ []
none_left left skip = nil_from_length (take left (drop skip (steps_of [])))
    (omega (arith, length-take left (drop skip (steps_of [])), length-drop skip (steps_of [])))

pub part_all : (sought : List Step) (part pieces : List Piece) (i skip left : ℕ) → length pieces ≤ i
    → IsPartSoFar sought part (drop i pieces) skip left → IsRouteOver sought part
part_all sought part pieces i skip left past so_far =
    let nothing : take left (drop skip (steps_of (drop i pieces))) ≡ [] =
    cc (drop_all i pieces past, none_left left skip) in
    record { joined = so_far.joined; steps_are = cc (append-nil (steps_of part)) }

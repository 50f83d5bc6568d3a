-- The stages of an answer, each of which finds something or ends the answer with a fault.
use Rattle.std.specs.Prelude.{◌≡◌, ℕ, ◌+◌, ◌⊎◌, ⊤, Result, Ok, Err}
use Rattle.olr_app.specs.Common.{Reference, Tolerances, RoadMap}
use Rattle.olr_candidates.specs.Points.{IsFirstTooMany}
use Rattle.olr_request.specs.declared.fault.Fault.{Fault}
use Rattle.olr_request.specs.declared.fault.Fault.TheVariants.{NoMemory, TooManyCandidates}

-- a stage has one result at most: it finds one thing, or has one fault, and not both
abbrev pub IsSingle : {A : Type 0} → (Result A Fault → Type 0) → Type 0
IsSingle {A} Stage = (one other : Result A Fault) → Stage one → Stage other → one ≡ other

-- a stage that has no fault
abbrev pub NoFault : {A : Type 0} → (A → Type 0) → Result A Fault → Type 0
NoFault {A} Is (Ok found) = Is found
NoFault {A} Is (Err fault) = ⊥

-- a stage that may have the fault of the first point with more than 64 candidates
abbrev pub OrTooMany : {A : Type 0} → Tolerances → Reference → RoadMap → (A → Type 0)
    → Result A Fault → Type 0
OrTooMany {A} tolerances reference road Is (Ok found) = Is found
OrTooMany {A} tolerances reference road Is (Err fault) = (index : ℕ)
    × IsFirstTooMany tolerances reference road.lines index
    × (fault ≡ TooManyCandidates (index + 1))

-- Two stages, the second of which goes on from what the first found: it finds something, or the
-- fault is that of the first stage that has one.
abbrev pub AndThen : {A B : Type 0} → (Result A Fault → Type 0)
    → (A → Result B Fault → Type 0) → Result B Fault → Type 0
AndThen {A} {B} First Next (Ok found) =
    (between : A) × First (Ok between) × Next between (Ok found)
AndThen {A} {B} First Next (Err fault) =
    First (Err fault) ⊎ ((between : A) × First (Ok between) × Next between (Err fault))

-- Why a stage found nothing: memory was refused, of which nothing is stated here, or the stage has
-- this fault.
abbrev pub IsStageFault : {A : Type 0} → (Result A Fault → Type 0) → Fault → Type 0
IsStageFault {A} Stage NoMemory = ⊤
IsStageFault {A} Stage fault = Stage (Err fault)

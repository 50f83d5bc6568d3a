-- The answer of a request on a map that was read before, from that of its stages.
use Rattle.olr_app.proofs.Common.{RoadMap, Accepts, IsAnswerOn, IsAnswerOnMap, IsFaultOnMap, IsStageFault, Accepted, Fault, NoMemory, Request, ℕ, List, Bool, Ok, Err, IfErr, IfOk, Result, inl, inr, refl}

module _ (marks : Bool) (road : RoadMap) (request : Request) (accepted : Accepted)
    (is : Accepts request (Ok accepted)) where
  -- the output
  pub output_on_map : {T : Type 0} (bytes : T → List ℕ) (result : Result T Fault)
      → IfOk result (λ output. IsAnswerOn marks request accepted road (Ok (bytes output)))
      → IfOk result (λ output. IsAnswerOnMap marks road request (Ok (bytes output)))
  output_on_map bytes (Ok output) on = (accepted, is, on)
  output_on_map bytes (Err why) on = tt

  -- the fault of a stage on the map, or want of memory
  of_stage : (why : Fault) → IsStageFault (IsAnswerOn marks request accepted road) why
      → IsFaultOnMap marks road request why
  of_stage NoMemory on = inr (refl, (accepted, is))
  of_stage other on = inl (inr (accepted, is, on))

  pub fault_on_map : {T : Type 0} (result : Result T Fault)
      → IfErr result (IsStageFault (IsAnswerOn marks request accepted road))
      → IfErr result (IsFaultOnMap marks road request)
  fault_on_map (Ok output) on = tt
  fault_on_map (Err why) on = of_stage why on

-- the refusal of its own texts
pub refusal_on_map : (marks : Bool) (road : RoadMap) (request : Request) (why : Fault)
    → Accepts request (Err why) → IsFaultOnMap marks road request why
refusal_on_map marks road request why is = inl (inl is)

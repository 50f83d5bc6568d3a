-- Checks that are made in the order of a list, each with the fault that it reports. The fault of
-- the first one that fails is reported.
use Rattle.std.specs.Prelude.{◌≡◌, ⊤, ◌⊎◌, List, [], ◌∷◌}

-- a check: what it needs, or what it forbids; and its fault
pub data Check (Fault : Type 0) : Type 1 where
  needs : Type 0 → Fault → Check Fault
  forbids : Type 0 → Fault → Check Fault

-- what is so where a check passes
abbrev pub Passes : {Fault : Type 0} → Check Fault → Type 0
Passes (needs Holds fault) = Holds
Passes (forbids Holds fault) = Holds → ⊥

-- what is so where it fails
abbrev pub Fails : {Fault : Type 0} → Check Fault → Type 0
Fails (needs Holds fault) = Holds → ⊥
Fails (forbids Holds fault) = Holds

-- the fault that it reports
abbrev pub fault_of : {Fault : Type 0} → Check Fault → Fault
fault_of (needs Holds fault) = fault
fault_of (forbids Holds fault) = fault

-- this is so of each check
abbrev pub Each : {Fault : Type 0} → (Check Fault → Type 0) → List (Check Fault) → Type 0
Each Is [] = ⊤
Each Is (check ∷ rest) = Is check × Each Is rest

-- all checks pass
abbrev pub AllPass : {Fault : Type 0} → List (Check Fault) → Type 0
AllPass checks = Each Passes checks

-- this holds of the fault of each check
abbrev pub EachFault : {Fault : Type 0} → (Fault → Type 0) → List (Check Fault) → Type 0
EachFault Is checks = Each (λ check. Is (fault_of check)) checks

-- this is the fault of the first check that fails: all before it pass
abbrev pub Refuses : {Fault : Type 0} → List (Check Fault) → Fault → Type 0
Refuses [] fault = ⊥
Refuses (check ∷ rest) fault = (Fails check × (fault ≡ fault_of check))
    ⊎ (Passes check × Refuses rest fault)

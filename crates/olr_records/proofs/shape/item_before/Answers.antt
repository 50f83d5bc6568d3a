use Rattle.olr_records.proofs.Common.{◌≡◌, rules, ℕ, ℤ, List, Option, Bor, option_map, Begins, SpellsLongitude}
use Rattle.olr_records.proofs.Items.{longitude_of_item, spaced, latitude_of_item, item_of_both}
use Rattle.olr_records.proofs.shape.item_before.Goals as goal

-- what is behind a longitude, by cases
first_is : (text : List ℕ) (lon : ℤ) {rest other : Option (Bor (List ℕ))} → rest ≡ other
    → Begins (λ front. SpellsLongitude front lon) 32 text (option_map (λ part. part.now) rest)
    → Begins (λ front. SpellsLongitude front lon) 32 text (option_map (λ part. part.now) other)
first_is text lon is begins = rw (← is) begins

pub returns-in_default : goal.returns-in_default
returns-in_default c = λ place rest begins. c.in_default.ensures place.lon _
    (longitude_of_item _ place rest begins)

pub returns-in_default-behind : goal.returns-in_default-behind
returns-in_default-behind c = λ place rest begins. spaced _ _ _
    (first_is _ _ c.in_default-behind.is c.in-Some.ensures) begins

pub returns-in_default-latitude_before : goal.returns-in_default-latitude_before
returns-in_default-latitude_before c = λ place rest begins.
    c.in_default-latitude_before.ensures place.lat rest
    (latitude_of_item _ _ _ _ _ (first_is _ _ c.in-Some-behind.is c.in-Some.ensures) begins)

pub returns : goal.returns
returns c =
    let both = item_of_both _ (first_is _ _ c.in-Some-behind.is c.in-Some.ensures)
    c.in-Some-latitude_before.ensures in
    search rules

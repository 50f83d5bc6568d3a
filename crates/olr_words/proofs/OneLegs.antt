-- The legs that words ask for are one.
use Rattle.std.proofs.Common.{◌≡◌, ◌∙◌, ap, sym, subst, refl, inl, inr, ℕ, List, Option}
use Rattle.std.specs.Prelude.{Result, Ok, Err, ◌⊎◌, unwrap_or}
use Rattle.olr_candidates.specs.declared.tolerances.Tolerances.{Tolerances}
use Rattle.olr_request.specs.Request.{at_bytes}
use Rattle.olr_request.specs.declared.fault.Fault.{Fault}
use Rattle.olr_request.specs.declared.fault.Fault.TheVariants as fault
use Rattle.olr_words.specs.OneRequest.{placeless_cursor, placeless_legs}
use Rattle.olr_candidates.specs.Tolerances.{IsFirstOutOfRange}
use Rattle.olr_candidates.specs.declared.tolerances.Tolerance.{Tolerance}
use Rattle.olr_request.specs.declared.request.LegsRequest.{LegsRequest}
use Rattle.olr_words.specs.Legs.{AreLegs, AreLegsAsked, AreRefusedLegs, IsNearShare, near_of}
use Rattle.olr_words.specs.Record.{AskForLegs}
use Rattle.olr_words.specs.RecordWords.{Parts}
use Rattle.olr_words.specs.Words.{AreTolerances, value_of}
use Rattle.olr_words.specs.declared.words.Given.{Given}
use Rattle.std.proofs.Common.{Bor}
use Rattle.olr_words.proofs.OneGiven.{Alike, alike, one_given}
use Rattle.olr_words.proofs.OneQuestion.{first_tolerance, not_both, one_tolerances}

same_legs : (a b : LegsRequest) → a.text.now ≡ b.text.now → a.tolerances ≡ b.tolerances
    → placeless_cursor a.at ≡ placeless_cursor b.at → a.near ≡ b.near → a.format ≡ b.format
    → placeless_legs a ≡ placeless_legs b
same_legs a b text tolerances at near format = λ k. record {
  text = at_bytes (text k);
  tolerances = tolerances k;
  at = at k;
  near = near k;
  format = format k;
}

one_near : (g h : Given) → Alike g h → near_of g ≡ near_of h
one_near g h alike = ap (λ (n : Option ℕ). unwrap_or n 1) alike.near

one_legs : (g h : Given) → Alike g h → (a b : LegsRequest) → AreLegsAsked g a → AreLegsAsked h b
    → placeless_legs a ≡ placeless_legs b
one_legs g h alike a b is other = same_legs a b
    (ap (λ (t : Bor (List ℕ)). t.now) is.text
    ∙ (alike.text ∙ sym (ap (λ (t : Bor (List ℕ)). t.now) other.text)))
    (one_tolerances g h alike a.tolerances b.tolerances is.tolerances other.tolerances)
    (ap placeless_cursor is.at ∙ (alike.at ∙ sym (ap placeless_cursor other.at)))
    (is.near ∙ (one_near g h alike ∙ sym other.near))
    (is.format ∙ (alike.format ∙ sym other.format))

-- why legs are refused: a tolerance, or else the share
refused_legs : (g : Given) (why : Fault) → AreRefusedLegs g why
    → ((name : Tolerance) × (why ≡ fault.BadTolerance name) × IsFirstOutOfRange (value_of g) name)
    ⊎ ((why ≡ fault.BadNear) × ((tolerances : Tolerances) × AreTolerances g tolerances)
    × ¬ (IsNearShare (near_of g)))
refused_legs g (fault.BadTolerance name) is = inl (name, refl, is)
refused_legs g fault.BadNear is = inr (refl, is.0, is.1)
refused_legs g _ is = absurd is

legs_or_refused : (g h : Given) → Alike g h → (a : LegsRequest) (why : Fault) → AreLegsAsked g a
    → AreRefusedLegs h why → ⊥
legs_or_refused g h alike a why is refused = elim (refused_legs h why refused) [
  | inl first ↦ not_both g h alike a.tolerances first.0 is.tolerances first.2
  | inr share ↦ share.2 (subst IsNearShare (one_near g h alike) is.in_range)
]

one_refused_legs : (g h : Given) → Alike g h → Alike h g → (a b : Fault) → AreRefusedLegs g a
    → AreRefusedLegs h b → a ≡ b
one_refused_legs g h alike back a b is other = elim (refused_legs g a is) [
  | inl first ↦ elim (refused_legs h b other) [
    | inl again ↦ first.1 ∙ (ap (λ n. fault.BadTolerance n) (first_tolerance (value_of g) first.0 again.0
        first.2 (subst (λ v. IsFirstOutOfRange v again.0) (sym alike.values) again.2)) ∙ sym again.1)
    | inr share ↦ absurd (not_both h g back share.1.0 first.0 share.1.1 first.2)
  ]
  | inr share ↦ elim (refused_legs h b other) [
    | inl again ↦ absurd (not_both g h alike share.1.0 again.0 share.1.1 again.2)
    | inr again ↦ share.0 ∙ sym again.0
  ]
]

abbrev pub SameLegs : Result LegsRequest Fault → Result LegsRequest Fault → Type 0
SameLegs (Ok a) (Ok b) = placeless_legs a ≡ placeless_legs b
SameLegs (Ok a) (Err why) = ⊥
SameLegs (Err why) (Ok b) = ⊥
SameLegs (Err why) (Err other) = why ≡ other

same_legs_asked : (g h : Given) → Alike g h → Alike h g → (r s : Result LegsRequest Fault)
    → AreLegs g r → AreLegs h s → SameLegs r s
same_legs_asked g h alike back (Ok a) (Ok b) is other = one_legs g h alike a b is other
same_legs_asked g h alike back (Ok a) (Err why) is other = legs_or_refused g h alike a why is other
same_legs_asked g h alike back (Err why) (Ok b) is other = legs_or_refused h g back b why other is
same_legs_asked g h alike back (Err why) (Err unlike) is other =
    one_refused_legs g h alike back why unlike is other

pub legs_the_same : (its : Parts) (r s : Result LegsRequest Fault) → AskForLegs its r
    → AskForLegs its s → SameLegs r s
legs_the_same its r s p q = same_legs_asked p.given q.given
    (one_given its p.given q.given p.given_by q.given_by)
    (one_given its q.given p.given q.given_by p.given_by) r s p.asks q.asks

-- The lines that words ask for are one.
use Rattle.std.proofs.Common.{◌≡◌, ◌∙◌, ap, sym, subst, refl, inl, inr, Some}
use Rattle.std.specs.Prelude.{Result, Ok, Err, ◌⊎◌, ◌≤ℤ◌, ℤ, unwrap_or}
use Rattle.olr_request.specs.declared.fault.Fault.{Fault}
use Rattle.olr_request.specs.declared.fault.Fault.TheVariants as fault
use Rattle.olr_words.specs.Lines.{AreLines, AreLinesAsked, AreRefusedLines, IsForwards, IsLineCount, most_of}
use Rattle.olr_words.specs.Record.{AskForLines, AskForNoLines, IsGivenBy}
use Rattle.olr_words.specs.declared.box_text.Edges.{Edges}
use Rattle.olr_words.specs.declared.words.GivenNumbers.{GivenNumbers}
use Rattle.olr_lines.specs.LinesInBox.{HasEdges}
use Rattle.olr_lines.specs.declared.geo_box.GeoBox.{GeoBox}
use Rattle.olr_places.specs.declared.limits.PlaceLimit.TheVariants.{Most}
use Rattle.olr_request.specs.declared.request.Extras.{Extras}
use Rattle.olr_request.specs.declared.request.LinesRequest.{LinesRequest}
use Rattle.std.proofs.Props.{props}
use Rattle.olr_words.specs.RecordWords.{Parts}
use Rattle.olr_words.specs.declared.words.Given.{Given}
use Rattle.olr_words.proofs.OneGiven.{Alike, alike, one_given}

same_lines : (a b : LinesRequest) → a.within ≡ b.within → a.most ≡ b.most → a.shape ≡ b.shape
    → a.format ≡ b.format → a ≡ b
same_lines a b within most shape format =
    λ k. record { within = within k; most = most k; shape = shape k; format = format k }

-- an edge, with the one that ends no farther back
abbrev Span : Type 0
Span = (from : ℤ) × (to : ℤ) × (from ≤ℤ to)

same_span : (a b : Span) → a.0 ≡ b.0 → a.1 ≡ b.1 → a ≡ b
same_span a b from to =
    let one : (x y : ℤ) → IsProp (x ≤ℤ y) = λ x y. hlevel props in
    let Same : ℤ → ℤ → Type 0 = λ x y. (is : x ≤ℤ y) → ◌≡◌ {A = Span} a (x, y, is) in
    let here : Same a.0 a.1 =
    λ is. ap (λ (known : a.0 ≤ℤ a.1). (a.0, a.1, known)) (one a.0 a.1 a.2 is) in
    subst (λ x. Same x b.1) from (subst (λ y. Same a.0 y) to here) b.2

box_of : Span → Span → GeoBox
box_of across up = record {
  west = across.0;
  south = up.0;
  east = across.1;
  north = up.1;
  eastwards = across.2;
  northwards = up.2;
}

same_box : (a b : GeoBox) → a.west ≡ b.west → a.south ≡ b.south → a.east ≡ b.east
    → a.north ≡ b.north → a ≡ b
unfolding box_of
same_box a b west south east north = λ k. box_of
    (same_span (a.west, a.east, a.eastwards) (b.west, b.east, b.eastwards) west east k)
    (same_span (a.south, a.north, a.northwards) (b.south, b.north, b.northwards) south north k)

one_edges_given : (g h : Given) → Alike g h → (a b : Edges) → g.edges ≡ Some a → h.edges ≡ Some b
    → a ≡ b
one_edges_given g h alike a b is other =
    let same : Some a ≡ Some b = sym is ∙ (alike.edges ∙ other) in cc

one_within : (a b : Edges) (x y : GeoBox) → a ≡ b → HasEdges a.west a.south a.east a.north x
    → HasEdges b.west b.south b.east b.north y → x ≡ y
one_within a b x y same is other = same_box x y
    (is.west_is ∙ (ap (λ (e : Edges). e.west) same ∙ sym other.west_is))
    (is.south_is ∙ (ap (λ (e : Edges). e.south) same ∙ sym other.south_is))
    (is.east_is ∙ (ap (λ (e : Edges). e.east) same ∙ sym other.east_is))
    (is.north_is ∙ (ap (λ (e : Edges). e.north) same ∙ sym other.north_is))

one_most : (g h : Given) → Alike g h → most_of g ≡ most_of h
one_most g h alike = ap (λ (n : GivenNumbers). unwrap_or n.most 20000) alike.numbers

one_lines : (g h : Given) → Alike g h → (a b : LinesRequest) → AreLinesAsked g a
    → AreLinesAsked h b → a ≡ b
one_lines g h alike a b is other = same_lines a b
    (one_within is.within.edges other.within.edges a.within b.within
    (one_edges_given g h alike is.within.edges other.within.edges is.within.given_edges
    other.within.given_edges) is.within.has_edges other.within.has_edges)
    (is.most ∙ (one_most g h alike ∙ sym other.most))
    (is.shape ∙ (ap (λ (e : Extras). e.shape) alike.extras ∙ sym other.shape))
    (is.format ∙ (alike.format ∙ sym other.format))

-- the box of lines that are asked for ends no farther back than it begins
forwards : (edges : Edges) (within : GeoBox)
    → HasEdges edges.west edges.south edges.east edges.north within → IsForwards edges
forwards edges within has = (
  subst (λ x. x ≤ℤ edges.east) has.west_is (subst (λ y. within.west ≤ℤ y) has.east_is within.eastwards),
  subst (λ x. x ≤ℤ edges.north) has.south_is
      (subst (λ y. within.south ≤ℤ y) has.north_is within.northwards),
)

lines_or_refused : (g h : Given) → Alike g h → (a : LinesRequest) (why : Fault) → AreLinesAsked g a
    → AreRefusedLines h why → ⊥
lines_or_refused g h alike a (fault.BadNumber Most) is refused =
    refused (subst IsLineCount (one_most g h alike) is.in_range)
lines_or_refused g h alike a fault.BadBox is refused =
    refused.1 is.within.edges (sym alike.edges ∙ is.within.given_edges)
    (forwards is.within.edges a.within is.within.has_edges)
lines_or_refused g h alike a _ is refused = refused

-- why lines are refused: their number, or else the box
refused_lines : (g : Given) (why : Fault) → AreRefusedLines g why
    → ((why ≡ fault.BadNumber Most) × ¬ (IsLineCount (most_of g)))
    ⊎ ((why ≡ fault.BadBox) × IsLineCount (most_of g))
refused_lines g (fault.BadNumber Most) is = inl (refl, is)
refused_lines g fault.BadBox is = inr (refl, is.0)
refused_lines g _ is = absurd is

one_refused_lines : (g h : Given) → Alike g h → (a b : Fault) → AreRefusedLines g a
    → AreRefusedLines h b → a ≡ b
one_refused_lines g h alike a b is other = elim (refused_lines g a is) [
  | inl many ↦ elim (refused_lines h b other) [
    | inl again ↦ many.0 ∙ sym again.0
    | inr box ↦ absurd (many.1 (subst IsLineCount (sym (one_most g h alike)) box.1))
  ]
  | inr box ↦ elim (refused_lines h b other) [
    | inl many ↦ absurd (many.1 (subst IsLineCount (one_most g h alike) box.1))
    | inr again ↦ box.0 ∙ sym again.0
  ]
]

same_result : (g h : Given) → Alike g h → Alike h g → (r s : Result LinesRequest Fault)
    → AreLines g r → AreLines h s → r ≡ s
same_result g h alike back (Ok a) (Ok b) is other = ap (λ (l : LinesRequest). Ok l) (one_lines g h alike a b is other)
same_result g h alike back (Ok a) (Err why) is other =
    absurd (lines_or_refused g h alike a why is other)
same_result g h alike back (Err why) (Ok b) is other =
    absurd (lines_or_refused h g back b why other is)
same_result g h alike back (Err why) (Err unlike) is other =
    ap (λ (w : Fault). Err w) (one_refused_lines g h alike why unlike is other)

pub lines_the_same : (its : Parts) (r s : Result LinesRequest Fault) → AskForLines its r
    → AskForLines its s → r ≡ s
lines_the_same its r s p q =
    let same : q.read_as ≡ p.read_as =
    (let both : Some q.read_as ≡ Some p.read_as = sym q.are_read ∙ p.are_read in cc) in
    let by : IsGivenBy p.read_as q.given = subst (λ it. IsGivenBy it q.given) same q.given_by in
    same_result p.given q.given (one_given p.read_as p.given q.given p.given_by by)
    (one_given p.read_as q.given p.given by p.given_by) r s p.asks q.asks

-- words that ask for lines don't ask for none
pub asks_for_lines : (its : Parts) (r : Result LinesRequest Fault) → AskForLines its r
    → AskForNoLines its → ⊥
asks_for_lines its r p none =
    none p.read_as p.are_read p.given_by.options p.given_by.understood

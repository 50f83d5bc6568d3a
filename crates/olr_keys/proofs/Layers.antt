-- The rows of all layers.
use Rattle.olr_keys.proofs.Bounds.{each_more}
use Rattle.olr_keys.proofs.Common.{◌≡◌, ℕ, ◌+◌, ◌-◌, ◌<◌, List, [], ◌∷◌, ◌++◌, length, map, inl, inr, sym, ◌∙◌, ap, subst, arith, slice_index_or, Vec, get_or-eq_default, cases_lt, map-map, Penalties, AreRowsOf, AreLastLayers, rows_of, layers_of}
use Rattle.std.proofs.Math.ListN.{get_or-map as map_at}
use Rattle.std.proofs.lemmas.List.{length-append, length-map, map-append}

-- the rows of a layer at an index
pub layer_at : (marks : List (Vec (Vec ℕ))) (index : ℕ)
    → slice_index_or (layers_of marks) index []
    ≡ rows_of (slice_index_or (map (λ (rows : Vec (Vec ℕ)). rows.items) marks) index [])
layer_at marks index =
    let items : Vec (Vec ℕ) → List (Vec ℕ) = λ rows. rows.items in
    ap (λ l. slice_index_or l index []) (sym (map-map rows_of items marks))
    ∙ map_at rows_of (map items marks) index []

-- after the last layer there are no candidates
none_later : (p : Penalties) (layer : ℕ) → layer ≡ length p.candidates → AreRowsOf p layer []
none_later p layer is = grind (arith, get_or-eq_default)

-- the rows of the first of the last layers
pub last_rows : {p : Penalties} {count : ℕ} (marks : List (Vec (Vec ℕ))) {rows : List (Vec ℕ)}
    → AreLastLayers p count (layers_of marks) → 0 < count
    → rows ≡ slice_index_or (map (λ (rows : Vec (Vec ℕ)). rows.items) marks) (length marks - 1) []
    → AreRowsOf p (length p.candidates - 1 - (count - 1)) (rows_of rows)
last_rows {count} marks {rows} they some is = grind (arith, length-map, layer_at)

-- the rows of the layer after the next one
pub next_rows : (p : Penalties) {layer : ℕ} (later : ℕ) (marks : List (Vec (Vec ℕ)))
    (rows : List (Vec ℕ)) → AreLastLayers p later (layers_of marks) → later < length p.candidates
    → layer ≡ length p.candidates - 1 - later
    → rows ≡ slice_index_or (map (λ (rows : Vec (Vec ℕ)). rows.items) marks) (length marks - 1)
    [] → AreRowsOf p (layer + 1) (rows_of rows)
next_rows p later marks rows they inside position is = elim (cases_lt 0 later) [
  | inl some ↦
      subst (λ n. AreRowsOf p n (rows_of rows)) {x = length p.candidates - 1 - (later - 1)}
      (omega arith) (last_rows _ they some is)
  | inr none ↦
      let same : slice_index_or (layers_of marks) (length marks - 1) [] ≡ rows_of rows =
      cc (layer_at _ _) in
      let empty =
      get_or-eq_default (layers_of marks) [] {n = length marks - 1} (omega arith) in
      rw (← (sym empty ∙ same)) (none_later _ _ (omega arith))
]

pub push_layer : (p : Penalties) {layer : ℕ} (later : ℕ) (marks pushed : List (Vec (Vec ℕ)))
    (rows : Vec (Vec ℕ)) → AreLastLayers p later (layers_of marks)
    → layer ≡ length p.candidates - 1 - later → AreRowsOf p layer (rows_of rows.items)
    → pushed ≡ marks ++ rows ∷ [] → AreLastLayers p (later + 1) (layers_of pushed)
push_layer p later marks pushed rows they position it is =
    let lists : Vec (Vec ℕ) → List (List ℕ) = λ v. rows_of v.items in
    let same : layers_of pushed ≡ layers_of marks ++ rows_of rows.items ∷ [] =
    cc (map-append lists marks (rows ∷ [])) in
    rw same (record {
      layers = omega (arith, length-append (layers_of marks) (rows_of rows.items ∷ []));
      each = each_more (λ k. AreRowsOf p (length p.candidates - 1 - k)) [] later (layers_of marks)
          (rows_of rows.items) they.layers they.each (rw (← position) it);
    })

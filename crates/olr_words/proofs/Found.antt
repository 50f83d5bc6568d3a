-- What was found for an option, as a function of the words.
use Rattle.std.proofs.Common.{◌≡◌, ◌∙◌, ap, refl, ℕ, Bool, true, false, cond, List, [], ◌∷◌, Some, map}
use Rattle.std.specs.Prelude.{find, option_map, slice_get}
use Rattle.std.specs.Prelude.{option_and_then}
use Rattle.std.specs.Str.{bytes_eq}
use Rattle.std.proofs.Common.{Bor}
use Rattle.clap.specs.Facts.{Entry}
use Rattle.clap.specs.Walk.{row_of, texts, Row}
use Rattle.clap.specs.Words.{first_of, first_value, rows_of}
use Rattle.clap.specs.declared.parser.matches.Found.{Found}
use Rattle.clap.specs.declared.parser.matches.MatchedArg.{MatchedArg}

first_text : (xs : List (Bor (List ℕ)))
    → option_map (λ s. s.now) (slice_get xs 0) ≡ slice_get (texts xs) 0
first_text [] = refl
first_text (x ∷ xs) = refl

text_in_entries : (id : List ℕ) (es : List Entry)
    → option_and_then (λ (a : MatchedArg). option_map (λ s. s.now) (slice_get a.vals.items 0))
    (option_map (λ e. e.1) (find (λ e. bytes_eq e.0.now id) es))
    ≡ first_of id (map row_of es)
text_in_entries id [] = refl
text_in_entries id (e ∷ es) = go (text_in_entries id es) (bytes_eq e.0.now id)
  where
    go : option_and_then (λ (a : MatchedArg). option_map (λ s. s.now) (slice_get a.vals.items 0))
        (option_map (λ e. e.1) (find (λ e. bytes_eq e.0.now id) es))
        ≡ first_of id (map row_of es) → (b : Bool)
        → option_and_then (λ (a : MatchedArg). option_map (λ s. s.now) (slice_get a.vals.items 0))
        (option_map (λ e. e.1) (cond b (Some e) (find (λ e. bytes_eq e.0.now id) es)))
        ≡ option_and_then (λ (r : Row). slice_get r.values 0)
        (cond b (Some (row_of e)) (find (λ r. bytes_eq r.id id) (map row_of es)))
    go others true = first_text e.1.vals.items
    go others false = others

pub first_in_rows : (f : Found) (id : List ℕ) → first_value f id ≡ first_of id (rows_of f)
first_in_rows f id = text_in_entries id f.entries.items

-- the texts found are those of the rows
pub texts_in_rows : (f : Found) (rows : List Row) → rows_of f ≡ rows
    → first_value f ≡ (λ id. first_of id rows)
texts_in_rows f rows are = λ k id. (first_in_rows f id ∙ ap (first_of id) are) k

-- Texts of features, which are added one by one.
use Rattle.std.proofs.Common.{Option, None, Some, option_map, ◌≡◌, ◌≢◌, ◌+◌, ◌++◌, ◌<◌, ◌∷◌, ◌∙◌, ℕ, List, ap, drop, get_or, length, map, sym}
use Rattle.std.specs.Global.{Vec}
use Rattle.std.proofs.lemmas.List.{append_assoc, drop_more}
use Rattle.std.specs.Prelude.{codes}
use Rattle.serde_json.specs.Data.{Data, Members, member, no_members}
use Rattle.serde_json.specs.Written.{compact_text}
use Rattle.olr_text.specs.JsonValues.{array_of}
use Rattle.olr_confidence.specs.Json.{name_value}
use Rattle.olr_confidence.specs.declared.asked.AskedName.{AskedName}
use Rattle.olr_likely.specs.Extending.{names_in}
use Rattle.olr_likely.specs.GeoJson.{maybe_before}
use Rattle.olr_geojson.specs.Joined.{behind_commas}

-- an object with a member isn't empty
pub not_empty : (name : List ℕ) (value : Data) (others : Members)
    → member name value others ≢ no_members
not_empty name value others same = absurd cc

-- a member before the features was added, by its name, its value and a comma
pub added : (names : Option (Vec AskedName)) (found : List AskedName) (old one two new text : List ℕ)
    → names_in names ≡ Some found → text ≡ compact_text (array_of name_value found)
    → one ≡ old ++ codes "\"differs\":" → two ≡ one ++ text → new ≡ two ++ codes ","
    → new ≡ old ++ maybe_before (codes "differs")
    (option_map (λ (all : Vec AskedName). array_of name_value all.items) names)
added None found old one two new text is text_is first second third = absurd cc
added (Some names) found old one two new text is text_is first second third =
    rw (third, second, first, text_is, ← some_same is) (simp append_assoc)
  where
    some_same : {x y : List AskedName} → Some x ≡ Some y → x ≡ y
    some_same same = cc

-- what is written, once one more is there, makes up the whole with those that are left
pub one_more : {A B : Type 0} (feature : A → B) (text : B → List ℕ) (list : List A) (index : ℕ)
    (a : A) (before after all : List ℕ) → index < length list → a ≡ get_or list index a
    → after ≡ before ++ codes "," ++ text (feature a)
    → before ++ behind_commas text (map feature (drop index list)) ≡ all
    → after ++ behind_commas text (map feature (drop (index + 1) list)) ≡ all
one_more feature text list index a before after all inside at grown so_far =
    let rest = behind_commas text (map feature (drop (index + 1) list)) in
    let dropped : drop index list ≡ a ∷ drop (index + 1) list =
    cc (drop_more list index a inside) in
    ap (λ l. l ++ rest) grown
    ∙ append_assoc (before ++ codes ",") (text (feature a)) rest
    ∙ append_assoc before (codes ",") (text (feature a) ++ rest)
    ∙ sym (ap (λ l. before ++ behind_commas text (map feature l)) dropped)
    ∙ so_far

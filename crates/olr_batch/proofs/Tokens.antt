-- The text of a line, from its pieces.
use Rattle.olr_batch.proofs.Common.{◌≡◌, refl, ℕ, List, ◌++◌, Option, None, Some, codes, append_assoc, line_text, tokens_behind}
use Rattle.olr_batch.specs.Line.{LineIsObject}
use Rattle.json.specs.Print.{print, print_from, escape_byte}

regrouped : (a b c d e : List ℕ) → ((((a ++ b) ++ c) ++ d) ++ e) ≡ (a ++ (b ++ (c ++ d))) ++ e
regrouped a b c d e = simp append_assoc

pub line_is : (answer : List ℕ) (fault key : Option (List ℕ)) (count : ℕ)
    → (((codes "{\"answer\":" ++ answer) ++ codes ",")
    ++ print (tokens_behind fault key count)) ++ codes "\n"
    ≡ line_text answer fault key count
unfolding escape_byte print_from
line_is answer None None count =
    regrouped (codes "{\"answer\":") (answer) (codes ",")
    (print (tokens_behind None None count)) (codes "\n")
line_is answer None (Some key) count =
    regrouped (codes "{\"answer\":") (answer) (codes ",")
    (print (tokens_behind None (Some key) count)) (codes "\n")
line_is answer (Some fault) None count =
    regrouped (codes "{\"answer\":") (answer) (codes ",")
    (print (tokens_behind (Some fault) None count)) (codes "\n")
line_is answer (Some fault) (Some key) count =
    regrouped (codes "{\"answer\":") (answer) (codes ",")
    (print (tokens_behind (Some fault) (Some key) count)) (codes "\n")

pub line_is_object : LineIsObject
unfolding escape_byte
line_is_object answer fault key count = refl

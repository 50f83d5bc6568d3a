use Rattle.std.proofs.Common.{◌≡◌, ◌≢◌, ℕ, List, [], ◌∷◌, Option, Some, None, Bor, MatchOption, refl, ap, arith, ◌∙◌, ne_eqb, unwrap_or}
use Rattle.std.proofs.lemmas.Str.Pattern.{strip_prefix_char}
use Rattle.olr_words.specs.BoxText.{without_minus}
use Rattle.olr_words.proofs.box_text.without_minus.Goals as goal

-- a text that doesn't begin with a minus
kept : (text : List ℕ) → ((rest : List ℕ) → text ≢ 45 ∷ rest) → text ≡ without_minus text
kept [] none = refl
kept (first ∷ rest) none =
    let other : first ≢ 45 = λ is. none rest (ap (λ byte. byte ∷ rest) is) in
    rw (ne_eqb first 45 other) refl

stripped : (text : Bor (List ℕ)) (found : Option (Bor (List ℕ)))
    → MatchOption found ((rest : List ℕ) → text.now ≢ 45 ∷ rest) (λ rest. text.now ≡ 45 ∷ rest.now)
    → (unwrap_or found text).now ≡ without_minus text.now
stripped text None none = kept text.now none
stripped text (Some rest) is = rw is refl

pub returns : goal.returns
returns c =
    ap (λ text. text.now) c.unwrap_or.ensures ∙ stripped _ _ (strip_prefix_char 45 _ _
    c.strip_prefix.ensures.cases (omega arith))

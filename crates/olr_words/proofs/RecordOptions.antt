-- The command of a record, one option after the other.
use Rattle.std.proofs.Common.{◌≡◌, ◌∙◌, ap, sym, refl, true, false, List, [], ◌∷◌, ◌++◌, Option, Some, None, map, append_assoc, append-nil}
use Rattle.std.specs.Prelude.{is_some, option_map, IfSome}
use Rattle.std.specs.List.{cons_option}
use Rattle.std.proofs.lemmas.List.{map-append}
use Rattle.clap.specs.Words.{App, Rule, with_rule}
use Rattle.olr_words.specs.Options.{OptionValue, RecordOption}
use Rattle.olr_words.specs.RecordCommand.{record_option, record_options, record_rule, record_value, with_options}
use Rattle.olr_words.specs.declared.options.CommandOption.{CommandOption}
use Rattle.olr_words.specs.declared.options.Takes.TheVariants.{Reference}

-- what stands where there is no element
abbrev pub no_option : CommandOption
no_option = record {
  name = record { ref_ptr = (0, 0); now = [] };
  takes = Reference;
  help = record { ref_ptr = (0, 0); now = [] };
}

pub none_more : (a : App) → with_options a [] ≡ a
none_more a = ap (λ rules. record a { top = record a.top { rules = rules } }) (append-nil a.top.rules)

pub both : (a : App) (xs ys : List RecordOption)
    → with_options (with_options a xs) ys ≡ with_options a (xs ++ ys)
both a xs ys = ap (λ rules. record a { top = record a.top { rules = rules } })
    (append_assoc a.top.rules (map record_rule xs) (map record_rule ys)
    ∙ ap (λ l. a.top.rules ++ l) (sym (map-append record_rule xs ys)))

one_more : (a : App) (o : RecordOption) (os : List RecordOption)
    → with_options a (o ∷ os) ≡ with_options (with_rule a (record_rule o)) os
one_more a o os = ap (λ rules. record a { top = record a.top { rules = rules } })
    (sym (append_assoc a.top.rules (record_rule o ∷ []) (map record_rule os)))

abbrev named : CommandOption → OptionValue → RecordOption
named option value = record { name = option.name.now; value = value }

-- an option that a record may have
pub added : (a b : App) (r : Rule) (option : CommandOption) (rest : List CommandOption)
    → is_some (record_value option.takes) ≡ true
    → IfSome (record_option option) (λ o. r ≡ record_rule o) → b ≡ with_rule a r
    → with_options a (record_options (option ∷ rest)) ≡ with_options b (record_options rest)
added a b r option rest has is with = go (record_value option.takes) has is
  where
    go : (v : Option OptionValue) → is_some v ≡ true
        → IfSome (option_map (named option) v) (λ o. r ≡ record_rule o)
        → with_options a (cons_option (option_map (named option) v) (record_options rest))
        ≡ with_options b (record_options rest)
    go None none is = cc
    go (Some v) some is = one_more a (named option v) (record_options rest)
        ∙ ap (λ app. with_options app (record_options rest)) (ap (with_rule a) (sym is) ∙ sym with)

-- another option
pub left_out : (a : App) (option : CommandOption) (rest : List CommandOption)
    → is_some (record_value option.takes) ≡ false
    → with_options a (record_options (option ∷ rest)) ≡ with_options a (record_options rest)
left_out a option rest has = go (record_value option.takes) has
  where
    go : (v : Option OptionValue) → is_some v ≡ false
        → with_options a (cons_option (option_map (named option) v) (record_options rest))
        ≡ with_options a (record_options rest)
    go None none = refl
    go (Some v) some = cc

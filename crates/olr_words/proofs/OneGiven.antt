-- What words give is one, but for where its texts lie in memory.
use mathlib.Core.Path.{fun_ext}
use Rattle.std.proofs.Common.{◌≡◌, ◌∙◌, ap, sym, subst, refl, arith, ℕ, Bor, false, List, [], Option, Some, None, cond, get_or}
use Rattle.std.specs.Prelude.{codes, option_map, unwrap_or}
use Rattle.std.specs.Bool.{one_answer}
use Rattle.olr_request.specs.Request.{at_bytes, bytes_of}
use Rattle.olr_request.specs.declared.request.Pages.TheVariants as pages
use Rattle.olr_likely.specs.declared.asked.PlaceOrder.{PlaceOrder}
use Rattle.olr_likely.specs.declared.asked.PlaceOrder.TheVariants.{Likely, Total}
use Rattle.olr_report.specs.declared.route_part.RoutePart.{RoutePart}
use Rattle.olr_report.specs.declared.route_part.RoutePart.TheVariants.{Inner, Outer, Route}
use Rattle.olr_request.specs.declared.request.Extras.{Extras}
use Rattle.olr_request.specs.declared.request.Format.{Format}
use Rattle.olr_request.specs.declared.request.Format.TheVariants.{GeoJson, Json, Text}
use Rattle.olr_words.specs.declared.box_text.Edges.{Edges}
use Rattle.olr_words.proofs.EdgeTexts.{one_edges}
use Rattle.olr_words.specs.Given.{AreEdgesOf, IsFormatNamed, IsNumberOf, IsOrderNamed, IsPartNamed, IsProfileNamed, IsRecordFormatNamed, record_format}
use Rattle.olr_words.specs.OneRequest.{placeless_cursor, placeless_pages}
use Rattle.olr_words.specs.Options.{RecordOption}
use Rattle.olr_words.specs.Profile.{profile_value}
use Rattle.olr_words.specs.Record.{AreGivenBy, IsGivenBy}
use Rattle.olr_words.specs.RecordWords.{Parts}
use Rattle.olr_words.specs.Words.{pages_of, value_of}
use Rattle.olr_words.specs.declared.profile.Profile.{Profile}
use Rattle.olr_words.specs.declared.profile.Profile.TheVariants.{Feed, Program}
use Rattle.olr_words.specs.declared.words.Given.{Given}
use Rattle.olr_words.specs.declared.words.GivenNumbers.{GivenNumbers}

one_number : (text : Option (List ℕ)) (a b : Option ℕ) → IsNumberOf text a → IsNumberOf text b
    → a ≡ b
one_number None a b is other = is ∙ sym other
one_number (Some text) None None is other = refl
one_number (Some text) None (Some b) is other = absurd (is other.0)
one_number (Some text) (Some a) None is other = absurd (other is.0)
one_number (Some text) (Some a) (Some b) is other = ap (λ n. Some n) (is.1 ∙ sym other.1)

one_profile : (name : Option (List ℕ)) (a b : Profile) → IsProfileNamed name a
    → IsProfileNamed name b → a ≡ b
one_profile name Feed Feed is other = refl
one_profile name Feed Program is other = absurd (other is)
one_profile name Program Feed is other = absurd (is other)
one_profile name Program Program is other = refl

one_order : (name : Option (List ℕ)) (a b : PlaceOrder) → IsOrderNamed name a
    → IsOrderNamed name b → a ≡ b
one_order name Likely Likely is other = refl
one_order name Likely Total is other = absurd (other is)
one_order name Total Likely is other = absurd (is other)
one_order name Total Total is other = refl

-- the first byte of a name, or 0
first_byte : Option (List ℕ) → ℕ
first_byte name = get_or (unwrap_or name []) 0 0

not_both_parts : (name : Option (List ℕ)) → name ≡ Some (codes "route")
    → name ≡ Some (codes "inner") → ⊥
unfolding first_byte
not_both_parts name is other =
    let same : ◌≡◌ {A = ℕ} 114 105 = ap first_byte (sym is ∙ other) in omega arith

one_part : (name : Option (List ℕ)) (a b : RoutePart) → IsPartNamed name a → IsPartNamed name b
    → a ≡ b
one_part name Route Route is other = refl
one_part name Route Inner is other = absurd (not_both_parts name is other)
one_part name Route Outer is other = absurd (other.0 is)
one_part name Inner Route is other = absurd (not_both_parts name other is)
one_part name Inner Inner is other = refl
one_part name Inner Outer is other = absurd (other.1 is)
one_part name Outer Route is other = absurd (is.0 other)
one_part name Outer Inner is other = absurd (is.1 other)
one_part name Outer Outer is other = refl

same_extras : (a b : Extras) → a.detail ≡ b.detail → a.shape ≡ b.shape → a.part ≡ b.part → a ≡ b
same_extras a b detail shape part =
    λ k. record { detail = detail k; shape = shape k; part = part k }

one_box : (text : Option (List ℕ)) (a b : Option Edges) → AreEdgesOf text a → AreEdgesOf text b
    → a ≡ b
one_box None a b is other = is ∙ sym other
one_box (Some text) None None is other = refl
one_box (Some text) None (Some b) is other = absurd (is (b, other))
one_box (Some text) (Some a) None is other = absurd (other (a, is))
one_box (Some text) (Some a) (Some b) is other = ap (λ (e : Edges). Some e) (one_edges is other)

one_format : (name : Option (List ℕ)) (a b : Format) → IsRecordFormatNamed name a
    → IsRecordFormatNamed name b → a ≡ b
one_format name Json Json is other = refl
one_format name Json GeoJson is other = absurd (is other)
one_format name Json Text is other = absurd other
one_format name GeoJson Json is other = absurd (other is)
one_format name GeoJson GeoJson is other = refl
one_format name GeoJson Text is other = absurd other
one_format name Text b is other = absurd is

-- the format of the answer to a record
pub in_record : (name : Option (List ℕ)) (format : Format) → IsFormatNamed name format
    → IsRecordFormatNamed name (record_format format)
unfolding first_byte
in_record name Json is =
    λ other. let same : ◌≡◌ {A = ℕ} 106 103 = ap first_byte (sym is ∙ other) in omega arith
in_record name GeoJson is = is
in_record name Text is = is.1

-- the same values, texts and pages
pub record Alike (g h : Given) : Type 0 where
  pub values : value_of g ≡ value_of h
  pub numbers : g.numbers ≡ h.numbers
  pub page : g.page ≡ h.page
  pub order : g.order ≡ h.order
  pub nearest : g.nearest ≡ h.nearest
  pub extras : g.extras ≡ h.extras
  pub edges : g.edges ≡ h.edges
  pub at : placeless_cursor g.at ≡ placeless_cursor h.at
  pub near : g.near ≡ h.near
  pub pages : placeless_pages (pages_of g) ≡ placeless_pages (pages_of h)
  pub text : g.text.now ≡ h.text.now
  pub format : g.format ≡ h.format
  pub one_page : g.all ≡ false
  pub one_page_too : h.all ≡ false

same_numbers : (a b : GivenNumbers) → a.apart ≡ b.apart → a.within ≡ b.within → a.look ≡ b.look
    → a.most ≡ b.most → a ≡ b
same_numbers a b apart within look most =
    λ k. record { apart = apart k; within = within k; look = look k; most = most k }

cursor_alike : (after : Option (Bor (List ℕ)))
    → option_map (λ text. at_bytes text.now) after ≡ option_map at_bytes (bytes_of after)
cursor_alike None = refl
cursor_alike (Some cursor) = refl

one_page_of : (g : Given) → g.all ≡ false
    → placeless_pages (pages_of g) ≡ pages.One (option_map at_bytes (bytes_of g.after))
one_page_of g one = ap (λ b. placeless_pages (cond b pages.All (pages.One g.after))) one
    ∙ ap (λ cursor. pages.One cursor) (cursor_alike g.after)

pub alike : (options : List RecordOption) (its : Parts) (g h : Given)
    → AreGivenBy options its g → AreGivenBy options its h → Alike g h
alike options its g h by other =
    let is = by.options_given in
    let too = other.options_given in
    record {
      values = fun_ext (λ name. λ k. unwrap_or
          (one_number _ _ _ (is.tolerances.each name) (too.tolerances.each name) k)
          (profile_value (one_profile _ g.profile h.profile is.profile too.profile k) name));
      numbers = same_numbers g.numbers h.numbers
          (one_number _ _ _ is.numbers.apart too.numbers.apart)
          (one_number _ _ _ is.numbers.within too.numbers.within)
          (one_number _ _ _ is.numbers.look too.numbers.look)
          (one_number _ _ _ is.numbers.most too.numbers.most);
      page = one_number _ _ _ is.page too.page;
      order = one_order _ _ _ is.order too.order;
      nearest = one_number _ _ _ is.nearest too.nearest;
      extras = same_extras g.extras h.extras (one_answer _ _ is.extras.detail too.extras.detail)
          (one_answer _ _ is.extras.shape too.extras.shape)
          (one_part _ _ _ is.extras.part too.extras.part);
      edges = one_box _ _ _ is.edges too.edges;
      at = cursor_alike g.at ∙ (ap (λ t. option_map at_bytes t) (is.at ∙ sym too.at)
          ∙ sym (cursor_alike h.at));
      near = one_number _ _ _ is.near too.near;
      pages = one_page_of g by.one_page ∙ (ap (λ t. pages.One (option_map at_bytes t))
          (is.after ∙ sym too.after) ∙ sym (one_page_of h other.one_page));
      text = by.reference ∙ sym other.reference;
      format = one_format _ _ _ by.format other.format;
      one_page = by.one_page;
      one_page_too = other.one_page;
    }

one_options : (its : Parts) (g h : Given) (p : IsGivenBy its g) (q : IsGivenBy its h)
    → q.options ≡ p.options
one_options its g h p q =
    let same : Some q.options ≡ Some p.options = sym q.understood.named ∙ p.understood.named in cc

pub one_given : (its : Parts) (g h : Given) → IsGivenBy its g → IsGivenBy its h → Alike g h
one_given its g h p q = alike p.options its g h p.by
    (subst (λ options. AreGivenBy options its h) (one_options its g h p q) q.by)

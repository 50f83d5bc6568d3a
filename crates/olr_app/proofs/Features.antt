-- The features of pages, one page after the other, as one collection.
use Rattle.olr_app.proofs.Common.{Extras, LayersValue, Mark, PageValue, KeyValue, RoadMap, AreEntriesAt, Entry, IsEntryAt, AllZip, concat, Bool, true, false, ◌≡◌, ℕ, List, [], ◌∷◌, ◌++◌, Option, All-nil, append_assoc, ap, refl, sym, ◌∙◌, map}
use Rattle.std.proofs.lemmas.List.{map-append}
use Rattle.std.proofs.lemmas.List.Elements.{All-append}
use Rattle.olr_app.specs.Matching.{IsCollectionOfPages, next_behind}
use Rattle.olr_app.specs.Page.{IsPageAsAsked, detailed_features_of, features_of}
use Rattle.olr_app.specs.inner.Added.{AreFeatures, AreFeaturesOfKeys}
use Rattle.olr_detail.specs.GeoJson.{page_members}
use Rattle.olr_detail.specs.MatchingDetail.{IsDetailed}
use Rattle.olr_geojson.specs.Collection.{collection_text}
use Rattle.olr_geojson.specs.Feature.{Feature, feature_text}
use Rattle.olr_geojson.specs.Joined.{behind_commas}
use Rattle.olr_keys.specs.Headline.{joined}
use Rattle.olr_request.specs.declared.request.Format.TheVariants.{GeoJson}

-- features behind commas, and further ones
both_behind : (one other : List Feature)
    → behind_commas feature_text (one ++ other)
    ≡ behind_commas feature_text one ++ behind_commas feature_text other
both_behind [] other = refl
both_behind (feature ∷ one) other =
    ap (λ rest. (44 ∷ feature_text feature) ++ rest) (both_behind one other)
    ∙ sym (append_assoc (44 ∷ feature_text feature) (behind_commas feature_text one)
    (behind_commas feature_text other))

module _ (extras : Extras) (road : RoadMap) (layers : LayersValue) where
  -- no keys have no features
  no_features : (detail : Bool) → AreFeatures detail extras road layers [] []
  no_features false = refl
  no_features true =
      ([], record { entries_are = refl; each = All-nil (IsDetailed layers.tolerances layers.reference road) }, refl)

  none : AreFeaturesOfKeys extras road layers [] []
  none = record {
    entries = [];
    are = record { keys_are = refl; each = All-nil (IsEntryAt road layers) };
    all = [];
    are_features = no_features extras.detail;
    added_is = refl;
  }

  both_features : (detail : Bool) (entries others : List Entry) (all more : List Feature)
      → AreFeatures detail extras road layers entries all
      → AreFeatures detail extras road layers others more
      → AreFeatures detail extras road layers (entries ++ others) (all ++ more)
  both_features false entries others all more is its = rw (is, its) (sym (map-append _ entries others))
  both_features true entries others all more is its = (
    is.0 ++ its.0,
    record {
      entries_are = map-append _ is.0 its.0 ∙ ap (λ l. l ++ map (λ one. one.entry) its.0) is.1.entries_are
          ∙ ap (λ l. entries ++ l) its.1.entries_are;
      each = All-append (IsDetailed layers.tolerances layers.reference road) is.0 its.0 is.1.each
          its.1.each;
    },
    rw (is.2, its.2) (sym (map-append _ is.0 its.0)),
  )

  -- the features of some keys and those of further ones
  both : {keys others : List KeyValue} {one other : List ℕ}
      → AreFeaturesOfKeys extras road layers keys one
      → AreFeaturesOfKeys extras road layers others other
      → AreFeaturesOfKeys extras road layers (keys ++ others) (one ++ other)
  both {keys} {others} {one} {other} is its = record {
    entries = is.entries ++ its.entries;
    are = record {
      keys_are = map-append _ is.entries its.entries
          ∙ ap (λ l. l ++ map (λ entry. entry.key) its.entries) is.are.keys_are
          ∙ ap (λ l. keys ++ l) its.are.keys_are;
      each = All-append (IsEntryAt road layers) is.entries its.entries is.are.each its.are.each;
    };
    all = is.all ++ its.all;
    are_features = both_features extras.detail is.entries its.entries is.all its.all is.are_features
        its.are_features;
    added_is = rw (is.added_is, its.added_is) (sym (both_behind is.all its.all));
  }

  -- the features of pages
  pub of_pages : (pages : List PageValue) (texts : List (List ℕ))
      → AllZip (λ page added. AreFeaturesOfKeys extras road layers page.keys added) pages texts
      → AreFeaturesOfKeys extras road layers (joined pages) (concat texts)
  of_pages [] [] each = none
  of_pages (page ∷ pages) (text ∷ texts) each = both each.0 (of_pages pages texts each.1)
  of_pages _ _ each = absurd each

  module _ (mark : Option Mark) (next : Option KeyValue) (text : List ℕ) where
    page_of_features : (detail : Bool) (entries : List Entry) (all : List Feature)
        → AreFeatures detail extras road layers entries all
        → text ≡ collection_text [] all (page_members next mark)
        → IsPageAsAsked detail extras GeoJson road layers entries next mark text
    page_of_features false entries all is text_is =
        text_is ∙ ap (λ l. collection_text [] l (page_members next mark)) is
    page_of_features true entries all is text_is = record {
      all = is.0;
      are = is.1;
      text_is = text_is ∙ ap (λ l. collection_text [] l (page_members next mark)) is.2;
    }

  -- the collection of the features of pages
  pub collected : (mark : Option Mark) (pages : List PageValue) (added output : List ℕ)
      → AreFeaturesOfKeys extras road layers (joined pages) added
      → ((all : List Feature) → added ≡ behind_commas feature_text all
      → output ≡ collection_text [] all (page_members (next_behind pages) mark))
      → IsCollectionOfPages extras road layers mark pages output
  collected mark pages added output is makes = record {
    entries = is.entries;
    are = is.are;
    text_is = page_of_features mark (next_behind pages) output extras.detail is.entries is.all
        is.are_features (makes is.all is.added_is);
  }

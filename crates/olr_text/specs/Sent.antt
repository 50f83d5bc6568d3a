-- The events that stand for a value of JSON whose text reads as this value.
use Rattle.std.specs.Prelude.{◌≡◌, ◌+◌, ◌^◌, ◌<◌, pos, negsuc, Some}
use Rattle.serde.specs.Event as event
use Rattle.serde.specs.Event.{Log, Logs}
use Rattle.serde.specs.declared.name.Case.TheVariants.{AsIs}
use Rattle.serde_json.specs.Data.{unsigned, negative, float, Data, null, boolean, number, string, array, object, Items, no_items, item, Members, no_members, member, put}
use Rattle.serde_json.specs.Events.{items_len, members_len}

-- `found` with the members put in, one after the other, each at the place of its name
abbrev pub with_members : Members → Members → Members
with_members no_members found = found
with_members (member name value members) found = with_members members (put name value found)

-- the members stand in the order of their names, each name once
abbrev pub AreOrdered : Members → Type 0
AreOrdered members = with_members members no_members ≡ members

-- The events of a value: each of its numbers is whole, less than 2 ^ 64 and greater than -2 ^ 63,
-- and the members of each of its objects stand in the order of their names, each name once.
abbrev mutual
  pub Sends : Data → Log → Log → Type 0
  Sends null old new = Logs old new event.nothing
  Sends (boolean b) old new = Logs old new (event.boolean b)
  Sends (number (unsigned n)) old new = Logs old new (event.unsigned n) × (n < 2 ^ 64)
  Sends (number (negative (pos n))) old new = ⊥
  Sends (number (negative (negsuc n))) old new =
      Logs old new (event.signed (negsuc n)) × (n + 1 < 2 ^ 63)
  Sends (number (float x)) old new = ⊥
  Sends (string text) old new = Logs old new (event.text text)
  Sends (array values) old new = (first : Log)
      × Logs old first (event.seq_begins (Some (items_len values))) × SendsItems values first new
  Sends (object members) old new =
      (first : Log) × Logs old first (event.map_begins (Some (members_len members)))
      × SendsMembers members first new × AreOrdered members

  -- the values of an array, and its end
  pub SendsItems : Items → Log → Log → Type 0
  SendsItems no_items old new = Logs old new event.seq_ends
  SendsItems (item value values) old new = (next : Log) × Sends value old next
      × SendsItems values next new

  -- the members of an object, and its end
  pub SendsMembers : Members → Log → Log → Type 0
  SendsMembers no_members old new = Logs old new event.map_ends
  SendsMembers (member name value members) old new =
      (named next : Log) × Logs old named (event.field_key name AsIs) × Sends value named next
      × SendsMembers members next new

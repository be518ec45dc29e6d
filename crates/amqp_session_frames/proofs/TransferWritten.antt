-- A Transfer in its common form is written by hand.
use Rattle.std.proofs.Common.{◌≡◌, ℕ, ◌+◌, ◌<◌, ◌≤◌, ◌^◌, List, [], ◌∷◌, ◌++◌, length, Bool, true, false, Option, Some, None, refl, sym, ◌∙◌, ap, arith, length-append}
use Rattle.std.specs.Prelude.{slice_range}
use Rattle.serde_amqp_item.specs.Item.{Items, scalar, boolean, null, uint, ulong, binary, list, described, no_items, more_items, item_count}
use Rattle.serde_amqp_item.specs.Canon.{canon, canon_all}
use Rattle.amqp_session_performatives.specs.Transfer.{transfer_item}
use Rattle.amqp_session_performatives.specs.declared.transfer.Transfer.{Transfer}
use Rattle.amqp_session_frames.specs.CommonTransfer.{CommonFields, EndsWithMore, HaveRange, IsCommon, common_text, field_count, fields_text, last_text, saying_only}
use Rattle.amqp_session_frames.specs.Items.{Holds, Puts, binary_text, short_record, uint_text}
use Rattle.amqp_session_frames.specs.Sizes.{transfer_text}
use Rattle.amqp_session_frames.proofs.ItemTexts.{items_canon, record_canon, tag_canon, uint_canon}
use Rattle.amqp_session_frames.proofs.Puts.{both_put, record_held}

-- ---- the text

-- the items behind the format
abbrev last_items : Option Bool → Bool → Items
last_items None false = no_items
last_items (Some settled) false = more_items (scalar (boolean settled)) no_items
last_items None true = more_items (scalar null) (more_items (scalar (boolean true)) no_items)
last_items (Some settled) true = more_items (scalar (boolean settled)) (more_items (scalar (boolean true)) no_items)

last_canon : (settled : Option Bool) (more : Bool) → canon_all (last_items settled more) ≡ Some (last_text settled more)
last_canon None false = refl
last_canon None true = refl
last_canon (Some true) false = refl
last_canon (Some false) false = refl
last_canon (Some true) true = refl
last_canon (Some false) true = refl

last_counts : (settled : Option Bool) (more : Bool) → item_count (last_items settled more) + 4 ≡ field_count settled more
last_counts None false = refl
last_counts None true = refl
last_counts (Some b) false = refl
last_counts (Some b) true = refl

last_long : (settled : Option Bool) (more : Bool) → length (last_text settled more) ≤ 2
last_long None false = omega arith
last_long None true = omega arith
last_long (Some true) false = omega arith
last_long (Some false) false = omega arith
last_long (Some true) true = omega arith
last_long (Some false) true = omega arith

abbrev all_items : CommonFields → Items
all_items c =
    more_items (scalar (uint c.handle)) (more_items (scalar (uint c.number)) (more_items (scalar (binary c.tag)) (more_items (scalar (uint c.format)) (last_items c.settled c.more))))

-- the item of a transfer that says these fields alone
only_item : (c : CommonFields) → transfer_item (saying_only c) ≡ described (scalar (ulong 0x14)) (list (all_items c))
only_item c = by c.settled c.more
  where
    by : (settled : Option Bool) (more : Bool) → transfer_item (saying_only (record c { settled = settled; more = more }))
        ≡ described (scalar (ulong 0x14)) (list (all_items (record c { settled = settled; more = more })))
    by None false = refl
    by None true = refl
    by (Some true) false = refl
    by (Some false) false = refl
    by (Some true) true = refl
    by (Some false) true = refl

all_canon : (c : CommonFields) → HaveRange c → length c.tag ≤ 32 → canon_all (all_items c) ≡ Some (fields_text c)
unfolding fields_text
all_canon c r t =
    let last : Items = last_items c.settled c.more in
    let three : Items = more_items (scalar (uint c.format)) last in
    let two : Items = more_items (scalar (binary c.tag)) three in
    let one : Items = more_items (scalar (uint c.number)) two in
    items_canon (scalar (uint c.handle)) one _ _ (uint_canon c.handle r.handle)
    (items_canon (scalar (uint c.number)) two _ _ (uint_canon c.number r.number)
    (items_canon (scalar (binary c.tag)) three _ _ (tag_canon c.tag t)
    (items_canon (scalar (uint c.format)) last _ _ (uint_canon c.format r.format) (last_canon c.settled c.more))))

common_canon : (c : CommonFields) → HaveRange c → length c.tag ≤ 32 → 0 < length (fields_text c) → length (fields_text c) < 255
    → canon (transfer_item (saying_only c)) ≡ Some (common_text c)
unfolding common_text
common_canon c r t some short =
    let e : item_count (all_items c) ≡ item_count (last_items c.settled c.more) + 4 = omega arith in
    ap canon (only_item c)
    ∙ record_canon 0x14 (all_items c) (fields_text c) (field_count c.settled c.more) refl (all_canon c r t) (e ∙ last_counts c.settled c.more) some short

-- ---- what is put

pub fields_put : (c : CommonFields) (at one two three four end : ℕ) (old a b d e new : List ℕ)
    → Puts (uint_text c.handle) at one old a → Puts (uint_text c.number) one two a b → Puts (binary_text c.tag) two three b d
    → Puts (uint_text c.format) three four d e → Puts (last_text c.settled c.more) four end e new
    → Puts (fields_text c) at end old new
unfolding fields_text
fields_put c at one two three four end old a b d e new h n t f l =
    both_put (uint_text c.handle) _ old a new at one end h
    (both_put (uint_text c.number) _ a b new one two end n
    (both_put (binary_text c.tag) _ b d new two three end t
    (both_put (uint_text c.format) (last_text c.settled c.more) d e new three four end f l)))

some_long : (a b t r : List ℕ) → 0 < length (a ++ (b ++ ((0xa0 ∷ length t ∷ t) ++ r)))
some_long a b t r = omega (arith, length-append a (b ++ ((0xa0 ∷ length t ∷ t) ++ r)), length-append b ((0xa0 ∷ length t ∷ t) ++ r))

fields_long : (c : CommonFields) → 0 < length (fields_text c)
unfolding fields_text
fields_long c = some_long (uint_text c.handle) (uint_text c.number) c.tag (uint_text c.format ++ last_text c.settled c.more)

pub transfer_put : (c : CommonFields) (count end : ℕ) (old mid new : List ℕ) → HaveRange c → length c.tag ≤ 32 → end ≤ 65
    → count ≡ field_count c.settled c.more
    → Puts (fields_text c) 14 end old mid
    → Puts (short_record 0x14 count (slice_range mid 14 end)) 8 end mid new
    → length old ≡ 72 → length mid ≡ 72 → length new ≡ 72
    → Holds (transfer_text (saying_only c)) end new
unfolding common_text transfer_text
transfer_put c count end old mid new r t small counts fields whole one two three =
    let text : canon (transfer_item (saying_only c)) ≡ Some (short_record 0x14 (field_count c.settled c.more) (fields_text c)) =
    common_canon c r t (fields_long c) (omega (arith, fields.long, small)) in
    record_held _ 0x14 count end (fields_text c) old mid new
    (text ∙ ap (λ (k : ℕ). Some (short_record 0x14 k (fields_text c))) (sym counts))
    fields whole (omega (arith, one)) (omega (arith, two)) (omega (arith, three, small))

-- ---- a transfer by its fields

abbrev by_fields : Transfer → Transfer
by_fields t =
    record {
      handle = record { 0 = (t.handle).0 };
      delivery_id = t.delivery_id;
      delivery_tag = t.delivery_tag;
      message_format = t.message_format;
      settled = t.settled;
      more = t.more;
      rcv_settle_mode = t.rcv_settle_mode;
      state = t.state;
      resume = t.resume;
      aborted = t.aborted;
      batchable = t.batchable;
    }

pub says_only : (t : Transfer) (number format : ℕ) (tag : List ℕ) → EndsWithMore t → t.delivery_id ≡ Some number → t.message_format ≡ Some format
    → t.delivery_tag ≡ Some tag → length tag ≤ 32
    → IsCommon t (record { handle = (t.handle).0; number = number; tag = tag; format = format; settled = t.settled; more = t.more })
says_only t number format tag p id fmt tagged short =
    let same : by_fields t
    ≡ saying_only (record { handle = (t.handle).0; number = number; tag = tag; format = format; settled = t.settled; more = t.more }) =
    cc (id, fmt, tagged, p.mode, p.state, p.resume, p.aborted, p.batchable) in
    record { is = same; tag = short }

pub written_common : (t : Transfer) (c : CommonFields) (end : ℕ) (bytes : List ℕ) → IsCommon t c → Holds (transfer_text (saying_only c)) end bytes
    → Holds (transfer_text t) end bytes
written_common t c end bytes common held =
    record { from = held.from; within = held.within; is = ap transfer_text common.is ∙ held.is }

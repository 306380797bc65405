-- A change that is read is the change that was written, and what was written is read again.
use Rattle.std.proofs.Common.{◌≡◌, ℕ, ◌<◌, Bool, true, false, ◌&&◌, cond, eqb, List, [], ◌∷◌, ◌++◌, length, Option, Some, None, suc, ◌==◌, refl, sym, ap, subst, ◌∙◌, arith}
use Rattle.std.proofs.lemmas.List.{length-append}
use Rattle.std.specs.Int.{w8, w16, w32, w64}
use Rattle.std.specs.Cmp.{first_so, second_so}
use Rattle.std.proofs.lemmas.Bool.{eqb-true}
use Rattle.row_tables.specs.declared.change.RowChange.{RowChange}
use Rattle.row_tables.specs.declared.change.RowChange.TheVariants.{InsertUser, UpdateUser, RemoveUser, InsertMailbox, UpdateMailbox, RemoveMailbox, InsertMessageRow, UpdateMessageRow, RemoveMessageRow, InsertMailboxMessage, UpdateMailboxMessage, RemoveMailboxMessage, InsertDeletedMessage, UpdateDeletedMessage, RemoveDeletedMessage, InsertFlagName, UpdateFlagName, RemoveFlagName, InsertFlagRow, UpdateFlagRow, RemoveFlagRow, InsertBodyPart, UpdateBodyPart, RemoveBodyPart, InsertPartNumber, UpdatePartNumber, RemovePartNumber, InsertFieldName, UpdateFieldName, RemoveFieldName, InsertHeaderField, UpdateHeaderField, RemoveHeaderField, InsertAddressRow, UpdateAddressRow, RemoveAddressRow, InsertAddressField, UpdateAddressField, RemoveAddressField, InsertDateField, UpdateDateField, RemoveDateField, InsertMessageId, UpdateMessageId, RemoveMessageId, InsertUnparsedMessage, UpdateUnparsedMessage, RemoveUnparsedMessage, InsertSubscription, UpdateSubscription, RemoveSubscription, InsertCounters, UpdateCounters, RemoveCounters, DropMailbox}
use Rattle.row_codec.specs.Encoding.{Written, change, written, encoding_of, HasTexts, HasWidths, user_parts, mailbox_parts, message_parts, mailbox_message_parts, deleted_message_parts, flag_name_parts, flag_parts, body_part_parts, part_number_parts, field_name_parts, header_field_parts, address_parts, address_field_parts, date_field_parts, message_id_parts, unparsed_message_parts, subscription_parts, counters_parts}
use Rattle.row_codec.specs.Codec.{Codec, mapped, number_codec, signed_codec, nothing_codec, text_codec, digest_codec, ◌then◌}
use Rattle.row_codec.specs.Reading.{user_codec, user_of, mailbox_codec, mailbox_of, message_codec, message_of, mailbox_message_codec, mailbox_message_of, deleted_message_codec, deleted_message_of, flag_name_codec, flag_name_of, flag_codec, flag_of, body_part_codec, body_part_of, part_number_codec, part_number_of, field_name_codec, field_name_of, header_field_codec, header_field_of, address_codec, address_of, address_field_codec, address_field_of, date_field_codec, date_field_of, message_id_codec, message_id_of, unparsed_message_codec, unparsed_message_of, subscription_codec, subscription_of, counters_codec, counters_of, u32_key_codec, u64_key_codec, u32_u32_key_codec, u32_u32_u64_key_codec, u64_text_key_codec, u64_text_u32_key_codec, u64_text_u32_u32_key_codec, u32_text_key_codec, nothing_key_codec, u32_u32_u64_key_of, u64_text_u32_key_of, u64_text_u32_u32_key_of, read_insert, read_update, read_removal, read_change}
use Rattle.row_codec.proofs.Fields.{IsBytes, Laws, bind_some, found_is, wide8, wide16, wide32, wide64, bits16, bits64, number_laws, signed_laws, nothing_laws, text_laws, digest_laws, then_laws}

number8 : Laws (number_codec w8)
number8 = number_laws w8 wide8

number32 : Laws (number_codec w32)
number32 = number_laws w32 wide32

number64 : Laws (number_codec w64)
number64 = number_laws w64 wide64

signed16 : Laws (signed_codec w16)
signed16 = signed_laws w16 wide16 bits16

signed64 : Laws (signed_codec w64)
signed64 = signed_laws w64 wide64 bits64

user_laws : Laws user_codec
user_laws = then_laws number32 (then_laws text_laws digest_laws)

mailbox_laws : Laws mailbox_codec
mailbox_laws = then_laws number32 (then_laws number32 (then_laws text_laws (then_laws number32 (then_laws number32 number64))))

message_laws : Laws message_codec
message_laws = then_laws number64 number64

mailbox_message_laws : Laws mailbox_message_codec
mailbox_message_laws = then_laws number32 (then_laws number32 (then_laws number64 (then_laws number64 (then_laws signed64 signed16))))

deleted_message_laws : Laws deleted_message_codec
deleted_message_laws = then_laws number32 (then_laws number32 number64)

flag_name_laws : Laws flag_name_codec
flag_name_laws = then_laws number64 text_laws

flag_laws : Laws flag_codec
flag_laws = then_laws number32 (then_laws number32 number64)

body_part_laws : Laws body_part_codec
body_part_laws = then_laws number64 (then_laws digest_laws text_laws)

part_number_laws : Laws part_number_codec
part_number_laws = then_laws number64 (then_laws text_laws (then_laws number8 number64))

field_name_laws : Laws field_name_codec
field_name_laws = then_laws number64 text_laws

header_field_laws : Laws header_field_codec
header_field_laws = then_laws number64 (then_laws text_laws (then_laws number32 (then_laws number64 (then_laws number8 text_laws))))

address_laws : Laws address_codec
address_laws = then_laws number64 (then_laws text_laws (then_laws text_laws text_laws))

address_field_laws : Laws address_field_codec
address_field_laws = then_laws number64 (then_laws text_laws (then_laws number32 (then_laws number32 (then_laws number8 number64))))

date_field_laws : Laws date_field_codec
date_field_laws = then_laws number64 (then_laws text_laws (then_laws number32 (then_laws text_laws (then_laws signed64 signed64))))

message_id_laws : Laws message_id_codec
message_id_laws = then_laws number64 (then_laws text_laws (then_laws number32 (then_laws number32 text_laws)))

unparsed_message_laws : Laws unparsed_message_codec
unparsed_message_laws = then_laws number64 number8

subscription_laws : Laws subscription_codec
subscription_laws = then_laws number32 text_laws

counters_laws : Laws counters_codec
counters_laws = number32

u32_key_laws : Laws u32_key_codec
u32_key_laws = number32

u64_key_laws : Laws u64_key_codec
u64_key_laws = number64

u32_u32_key_laws : Laws u32_u32_key_codec
u32_u32_key_laws = then_laws number32 number32

u32_u32_u64_key_laws : Laws u32_u32_u64_key_codec
u32_u32_u64_key_laws = then_laws number32 (then_laws number32 number64)

u64_text_key_laws : Laws u64_text_key_codec
u64_text_key_laws = then_laws number64 text_laws

u64_text_u32_key_laws : Laws u64_text_u32_key_codec
u64_text_u32_key_laws = then_laws number64 (then_laws text_laws number32)

u64_text_u32_u32_key_laws : Laws u64_text_u32_u32_key_codec
u64_text_u32_u32_key_laws = then_laws number64 (then_laws text_laws (then_laws number32 number32))

u32_text_key_laws : Laws u32_text_key_codec
u32_text_key_laws = then_laws number32 text_laws

nothing_key_laws : Laws nothing_key_codec
nothing_key_laws = nothing_laws

-- ---- one row or key

row_again : {A R : Type 0} (c : Codec A) (whole : A → R) (make : R → RowChange) → Laws c → (x : A) (rest : List ℕ) → c.column.HasTexts x → c.column.HasWidths x
    → mapped make (mapped whole (c.read (c.column.bytes x ++ rest))) ≡ Some (make (whole x), rest)
row_again c whole make laws x rest texts widths = ap (λ o. mapped make (mapped whole o)) (laws.again x rest texts widths)

-- the bytes are those of a change and a rest
pub record TakesChange (bytes : List ℕ) (change : RowChange) (rest : List ℕ) : Type 0 where
  pub parts : bytes ≡ encoding_of change ++ rest
  pub texts : HasTexts change
  pub widths : HasWidths change
  pub rest_fits : IsBytes rest
  pub shorter : length rest < length bytes

row_takes : {A R : Type 0} (c : Codec A) (whole : A → R) (make : R → RowChange) (table operation : ℕ) → Laws c → ((x : A) → written (make (whole x)) ≡ change table operation c.column x)
    → (bytes : List ℕ) (result : RowChange) (rest : List ℕ) → IsBytes bytes → (n : ℕ) → n ≡ table → mapped make (mapped whole (c.read bytes)) ≡ Some (result, rest)
    → TakesChange (n ∷ operation ∷ bytes) result rest
row_takes {A} {R} c whole make table operation laws is bytes result rest fits n at e =
    let row = bind_some (mapped whole (c.read bytes)) (λ p. Some (make p.0, p.1)) (result, rest) e in
    let columns = bind_some (c.read bytes) (λ p. Some (whole p.0, p.1)) row.0 row.1 in
    let x = columns.0.0 in
    let t = laws.takes bytes x columns.0.1 fits columns.1 in
    let made : TakesChange (table ∷ operation ∷ bytes) (make (whole x)) columns.0.1 = record {
      parts = ap (λ (l : List ℕ). table ∷ operation ∷ l) t.parts ∙ ap (λ (l : List ℕ). l ++ columns.0.1) (ap (λ (w : Written). w.bytes) (sym (is x)));
      texts = subst (λ (w : Written). w.texts) (sym (is x)) t.texts;
      widths = subst (λ (w : Written). w.widths) (sym (is x)) t.widths;
      rest_fits = t.rest_fits;
      shorter = omega (arith, ap length t.parts, length-append (c.column.bytes x) columns.0.1);
    } in
    let of_row = subst (λ (p : R × List ℕ). TakesChange (table ∷ operation ∷ bytes) (make p.0) p.1) (found_is (whole x, columns.0.1) row.0 columns.2) made in
    let of_change = subst (λ (p : RowChange × List ℕ). TakesChange (table ∷ operation ∷ bytes) p.0 p.1) (found_is (make row.0.0, row.0.1) (result, rest) row.2) of_row in
    subst (λ (k : ℕ). TakesChange (k ∷ operation ∷ bytes) result rest) (sym at) of_change

decided : {A : Type 0} (b : Bool) (n m : ℕ) (x y z : A) (P : Type 0) → eqb n m ≡ b → cond b x y ≡ z → (n ≡ m → x ≡ z → P) → (y ≡ z → P) → P
decided true n m x y z P is e one other = one (eqb-true n m is) e
decided false n m x y z P is e one other = other e

choose : {A : Type 0} (n m : ℕ) (x y z : A) (P : Type 0) → cond (eqb n m) x y ≡ z → (n ≡ m → x ≡ z → P) → (y ≡ z → P) → P
choose n m x y z P e one other = decided (eqb n m) n m x y z P refl e one other

-- ---- all tables

insert_takes : (table : ℕ) (bytes : List ℕ) (result : RowChange) (rest : List ℕ) → IsBytes bytes → read_insert table bytes ≡ Some (result, rest) → TakesChange (table ∷ 0 ∷ bytes) result rest
unfolding read_insert
insert_takes table bytes result rest fits e =
    choose table 1 _ _ _ _ e (row_takes user_codec user_of (λ r. InsertUser r) 1 0 user_laws (λ x. refl) bytes result rest fits table)
    (λ e. choose table 2 _ _ _ _ e (row_takes mailbox_codec mailbox_of (λ r. InsertMailbox r) 2 0 mailbox_laws (λ x. refl) bytes result rest fits table)
    (λ e. choose table 3 _ _ _ _ e (row_takes message_codec message_of (λ r. InsertMessageRow r) 3 0 message_laws (λ x. refl) bytes result rest fits table)
    (λ e. choose table 4 _ _ _ _ e (row_takes mailbox_message_codec mailbox_message_of (λ r. InsertMailboxMessage r) 4 0 mailbox_message_laws (λ x. refl) bytes result rest fits table)
    (λ e. choose table 5 _ _ _ _ e (row_takes deleted_message_codec deleted_message_of (λ r. InsertDeletedMessage r) 5 0 deleted_message_laws (λ x. refl) bytes result rest fits table)
    (λ e. choose table 6 _ _ _ _ e (row_takes flag_name_codec flag_name_of (λ r. InsertFlagName r) 6 0 flag_name_laws (λ x. refl) bytes result rest fits table)
    (λ e. choose table 7 _ _ _ _ e (row_takes flag_codec flag_of (λ r. InsertFlagRow r) 7 0 flag_laws (λ x. refl) bytes result rest fits table)
    (λ e. choose table 8 _ _ _ _ e (row_takes body_part_codec body_part_of (λ r. InsertBodyPart r) 8 0 body_part_laws (λ x. refl) bytes result rest fits table)
    (λ e. choose table 9 _ _ _ _ e (row_takes part_number_codec part_number_of (λ r. InsertPartNumber r) 9 0 part_number_laws (λ x. refl) bytes result rest fits table)
    (λ e. choose table 10 _ _ _ _ e (row_takes field_name_codec field_name_of (λ r. InsertFieldName r) 10 0 field_name_laws (λ x. refl) bytes result rest fits table)
    (λ e. choose table 11 _ _ _ _ e (row_takes header_field_codec header_field_of (λ r. InsertHeaderField r) 11 0 header_field_laws (λ x. refl) bytes result rest fits table)
    (λ e. choose table 12 _ _ _ _ e (row_takes address_codec address_of (λ r. InsertAddressRow r) 12 0 address_laws (λ x. refl) bytes result rest fits table)
    (λ e. choose table 13 _ _ _ _ e (row_takes address_field_codec address_field_of (λ r. InsertAddressField r) 13 0 address_field_laws (λ x. refl) bytes result rest fits table)
    (λ e. choose table 14 _ _ _ _ e (row_takes date_field_codec date_field_of (λ r. InsertDateField r) 14 0 date_field_laws (λ x. refl) bytes result rest fits table)
    (λ e. choose table 15 _ _ _ _ e (row_takes message_id_codec message_id_of (λ r. InsertMessageId r) 15 0 message_id_laws (λ x. refl) bytes result rest fits table)
    (λ e. choose table 16 _ _ _ _ e (row_takes unparsed_message_codec unparsed_message_of (λ r. InsertUnparsedMessage r) 16 0 unparsed_message_laws (λ x. refl) bytes result rest fits table)
    (λ e. choose table 17 _ _ _ _ e (row_takes subscription_codec subscription_of (λ r. InsertSubscription r) 17 0 subscription_laws (λ x. refl) bytes result rest fits table)
    (λ e. choose table 18 _ _ _ _ e (row_takes counters_codec counters_of (λ r. InsertCounters r) 18 0 counters_laws (λ x. refl) bytes result rest fits table)
    (λ e. absurd cc))))))))))))))))))

update_takes : (table : ℕ) (bytes : List ℕ) (result : RowChange) (rest : List ℕ) → IsBytes bytes → read_update table bytes ≡ Some (result, rest) → TakesChange (table ∷ 1 ∷ bytes) result rest
unfolding read_update
update_takes table bytes result rest fits e =
    choose table 1 _ _ _ _ e (row_takes user_codec user_of (λ r. UpdateUser r) 1 1 user_laws (λ x. refl) bytes result rest fits table)
    (λ e. choose table 2 _ _ _ _ e (row_takes mailbox_codec mailbox_of (λ r. UpdateMailbox r) 2 1 mailbox_laws (λ x. refl) bytes result rest fits table)
    (λ e. choose table 3 _ _ _ _ e (row_takes message_codec message_of (λ r. UpdateMessageRow r) 3 1 message_laws (λ x. refl) bytes result rest fits table)
    (λ e. choose table 4 _ _ _ _ e (row_takes mailbox_message_codec mailbox_message_of (λ r. UpdateMailboxMessage r) 4 1 mailbox_message_laws (λ x. refl) bytes result rest fits table)
    (λ e. choose table 5 _ _ _ _ e (row_takes deleted_message_codec deleted_message_of (λ r. UpdateDeletedMessage r) 5 1 deleted_message_laws (λ x. refl) bytes result rest fits table)
    (λ e. choose table 6 _ _ _ _ e (row_takes flag_name_codec flag_name_of (λ r. UpdateFlagName r) 6 1 flag_name_laws (λ x. refl) bytes result rest fits table)
    (λ e. choose table 7 _ _ _ _ e (row_takes flag_codec flag_of (λ r. UpdateFlagRow r) 7 1 flag_laws (λ x. refl) bytes result rest fits table)
    (λ e. choose table 8 _ _ _ _ e (row_takes body_part_codec body_part_of (λ r. UpdateBodyPart r) 8 1 body_part_laws (λ x. refl) bytes result rest fits table)
    (λ e. choose table 9 _ _ _ _ e (row_takes part_number_codec part_number_of (λ r. UpdatePartNumber r) 9 1 part_number_laws (λ x. refl) bytes result rest fits table)
    (λ e. choose table 10 _ _ _ _ e (row_takes field_name_codec field_name_of (λ r. UpdateFieldName r) 10 1 field_name_laws (λ x. refl) bytes result rest fits table)
    (λ e. choose table 11 _ _ _ _ e (row_takes header_field_codec header_field_of (λ r. UpdateHeaderField r) 11 1 header_field_laws (λ x. refl) bytes result rest fits table)
    (λ e. choose table 12 _ _ _ _ e (row_takes address_codec address_of (λ r. UpdateAddressRow r) 12 1 address_laws (λ x. refl) bytes result rest fits table)
    (λ e. choose table 13 _ _ _ _ e (row_takes address_field_codec address_field_of (λ r. UpdateAddressField r) 13 1 address_field_laws (λ x. refl) bytes result rest fits table)
    (λ e. choose table 14 _ _ _ _ e (row_takes date_field_codec date_field_of (λ r. UpdateDateField r) 14 1 date_field_laws (λ x. refl) bytes result rest fits table)
    (λ e. choose table 15 _ _ _ _ e (row_takes message_id_codec message_id_of (λ r. UpdateMessageId r) 15 1 message_id_laws (λ x. refl) bytes result rest fits table)
    (λ e. choose table 16 _ _ _ _ e (row_takes unparsed_message_codec unparsed_message_of (λ r. UpdateUnparsedMessage r) 16 1 unparsed_message_laws (λ x. refl) bytes result rest fits table)
    (λ e. choose table 17 _ _ _ _ e (row_takes subscription_codec subscription_of (λ r. UpdateSubscription r) 17 1 subscription_laws (λ x. refl) bytes result rest fits table)
    (λ e. choose table 18 _ _ _ _ e (row_takes counters_codec counters_of (λ r. UpdateCounters r) 18 1 counters_laws (λ x. refl) bytes result rest fits table)
    (λ e. absurd cc))))))))))))))))))

removal_takes : (table : ℕ) (bytes : List ℕ) (result : RowChange) (rest : List ℕ) → IsBytes bytes → read_removal table bytes ≡ Some (result, rest) → TakesChange (table ∷ 2 ∷ bytes) result rest
unfolding read_removal
removal_takes table bytes result rest fits e =
    choose table 1 _ _ _ _ e (row_takes u32_key_codec (λ c. c) (λ k. RemoveUser k) 1 2 u32_key_laws (λ x. refl) bytes result rest fits table)
    (λ e. choose table 2 _ _ _ _ e (row_takes u32_key_codec (λ c. c) (λ k. RemoveMailbox k) 2 2 u32_key_laws (λ x. refl) bytes result rest fits table)
    (λ e. choose table 3 _ _ _ _ e (row_takes u64_key_codec (λ c. c) (λ k. RemoveMessageRow k) 3 2 u64_key_laws (λ x. refl) bytes result rest fits table)
    (λ e. choose table 4 _ _ _ _ e (row_takes u32_u32_key_codec (λ c. c) (λ k. RemoveMailboxMessage k) 4 2 u32_u32_key_laws (λ x. refl) bytes result rest fits table)
    (λ e. choose table 5 _ _ _ _ e (row_takes u32_u32_key_codec (λ c. c) (λ k. RemoveDeletedMessage k) 5 2 u32_u32_key_laws (λ x. refl) bytes result rest fits table)
    (λ e. choose table 6 _ _ _ _ e (row_takes u64_key_codec (λ c. c) (λ k. RemoveFlagName k) 6 2 u64_key_laws (λ x. refl) bytes result rest fits table)
    (λ e. choose table 7 _ _ _ _ e (row_takes u32_u32_u64_key_codec u32_u32_u64_key_of (λ k. RemoveFlagRow k) 7 2 u32_u32_u64_key_laws (λ x. refl) bytes result rest fits table)
    (λ e. choose table 8 _ _ _ _ e (row_takes u64_key_codec (λ c. c) (λ k. RemoveBodyPart k) 8 2 u64_key_laws (λ x. refl) bytes result rest fits table)
    (λ e. choose table 9 _ _ _ _ e (row_takes u64_text_key_codec (λ c. c) (λ k. RemovePartNumber k) 9 2 u64_text_key_laws (λ x. refl) bytes result rest fits table)
    (λ e. choose table 10 _ _ _ _ e (row_takes u64_key_codec (λ c. c) (λ k. RemoveFieldName k) 10 2 u64_key_laws (λ x. refl) bytes result rest fits table)
    (λ e. choose table 11 _ _ _ _ e (row_takes u64_text_u32_key_codec u64_text_u32_key_of (λ k. RemoveHeaderField k) 11 2 u64_text_u32_key_laws (λ x. refl) bytes result rest fits table)
    (λ e. choose table 12 _ _ _ _ e (row_takes u64_key_codec (λ c. c) (λ k. RemoveAddressRow k) 12 2 u64_key_laws (λ x. refl) bytes result rest fits table)
    (λ e. choose table 13 _ _ _ _ e (row_takes u64_text_u32_u32_key_codec u64_text_u32_u32_key_of (λ k. RemoveAddressField k) 13 2 u64_text_u32_u32_key_laws (λ x. refl) bytes result rest fits table)
    (λ e. choose table 14 _ _ _ _ e (row_takes u64_text_u32_key_codec u64_text_u32_key_of (λ k. RemoveDateField k) 14 2 u64_text_u32_key_laws (λ x. refl) bytes result rest fits table)
    (λ e. choose table 15 _ _ _ _ e (row_takes u64_text_u32_u32_key_codec u64_text_u32_u32_key_of (λ k. RemoveMessageId k) 15 2 u64_text_u32_u32_key_laws (λ x. refl) bytes result rest fits table)
    (λ e. choose table 16 _ _ _ _ e (row_takes u64_key_codec (λ c. c) (λ k. RemoveUnparsedMessage k) 16 2 u64_key_laws (λ x. refl) bytes result rest fits table)
    (λ e. choose table 17 _ _ _ _ e (row_takes u32_text_key_codec (λ c. c) (λ k. RemoveSubscription k) 17 2 u32_text_key_laws (λ x. refl) bytes result rest fits table)
    (λ e. choose table 18 _ _ _ _ e (row_takes nothing_key_codec (λ c. c) (λ k. RemoveCounters k) 18 2 nothing_key_laws (λ x. refl) bytes result rest fits table)
    (λ e. absurd cc))))))))))))))))))

drop_takes : (table operation : ℕ) (bytes : List ℕ) (result : RowChange) (rest : List ℕ) → IsBytes bytes → (b : Bool) → ((operation == 3) && (table == 2)) ≡ b
    → cond b (mapped (λ mailbox. DropMailbox mailbox) (u32_key_codec.read bytes)) None ≡ Some (result, rest) → TakesChange (table ∷ operation ∷ bytes) result rest
drop_takes table operation bytes result rest fits true is e =
    let three = eqb-true operation 3 (first_so (operation == 3) (table == 2) is) in
    let two = eqb-true table 2 (second_so (operation == 3) (table == 2) is) in
    let read : mapped (λ mailbox. DropMailbox mailbox) (mapped (λ c. c) (u32_key_codec.read bytes)) ≡ Some (result, rest) = mapped_itself (u32_key_codec.read bytes) ∙ e in
    subst (λ (n : ℕ). TakesChange (table ∷ n ∷ bytes) result rest) (sym three) (row_takes u32_key_codec (λ c. c) (λ mailbox. DropMailbox mailbox) 2 3 u32_key_laws (λ x. refl) bytes result rest fits table two read)
  where
    mapped_itself : (o : Option (ℕ × List ℕ)) → mapped (λ mailbox. DropMailbox mailbox) (mapped (λ c. c) o) ≡ mapped (λ mailbox. DropMailbox mailbox) o
    mapped_itself None = refl
    mapped_itself (Some p) = refl
drop_takes table operation bytes result rest fits false is e = absurd cc

pub change_takes : (bytes : List ℕ) (result : RowChange) (rest : List ℕ) → IsBytes bytes → read_change bytes ≡ Some (result, rest) → TakesChange bytes result rest
unfolding read_change
change_takes [] result rest fits e = absurd cc
change_takes (table ∷ []) result rest fits e = absurd cc
change_takes (table ∷ operation ∷ bytes) result rest fits e =
    let behind : IsBytes bytes = λ i. fits (suc (suc i)) in
    let at = λ (n : ℕ) (t : TakesChange (table ∷ n ∷ bytes) result rest) (is : operation ≡ n). subst (λ (m : ℕ). TakesChange (table ∷ m ∷ bytes) result rest) (sym is) t in
    choose operation 0 _ _ _ _ e (λ is e. at 0 (insert_takes table bytes result rest behind e) is)
    (λ e. choose operation 1 _ _ _ _ e (λ is e. at 1 (update_takes table bytes result rest behind e) is)
    (λ e. choose operation 2 _ _ _ _ e (λ is e. at 2 (removal_takes table bytes result rest behind e) is)
    (λ e. drop_takes table operation bytes result rest behind ((operation == 3) && (table == 2)) refl e)))

pub change_again : (made : RowChange) (rest : List ℕ) → HasTexts made → HasWidths made → read_change (encoding_of made ++ rest) ≡ Some (made, rest)
unfolding read_change read_insert read_update read_removal
change_again (InsertUser r) rest texts widths = row_again user_codec user_of (λ r. InsertUser r) user_laws (user_parts r) rest texts widths
change_again (UpdateUser r) rest texts widths = row_again user_codec user_of (λ r. UpdateUser r) user_laws (user_parts r) rest texts widths
change_again (RemoveUser k) rest texts widths = row_again u32_key_codec (λ c. c) (λ k. RemoveUser k) u32_key_laws k rest texts widths
change_again (InsertMailbox r) rest texts widths = row_again mailbox_codec mailbox_of (λ r. InsertMailbox r) mailbox_laws (mailbox_parts r) rest texts widths
change_again (UpdateMailbox r) rest texts widths = row_again mailbox_codec mailbox_of (λ r. UpdateMailbox r) mailbox_laws (mailbox_parts r) rest texts widths
change_again (RemoveMailbox k) rest texts widths = row_again u32_key_codec (λ c. c) (λ k. RemoveMailbox k) u32_key_laws k rest texts widths
change_again (InsertMessageRow r) rest texts widths = row_again message_codec message_of (λ r. InsertMessageRow r) message_laws (message_parts r) rest texts widths
change_again (UpdateMessageRow r) rest texts widths = row_again message_codec message_of (λ r. UpdateMessageRow r) message_laws (message_parts r) rest texts widths
change_again (RemoveMessageRow k) rest texts widths = row_again u64_key_codec (λ c. c) (λ k. RemoveMessageRow k) u64_key_laws k rest texts widths
change_again (InsertMailboxMessage r) rest texts widths = row_again mailbox_message_codec mailbox_message_of (λ r. InsertMailboxMessage r) mailbox_message_laws (mailbox_message_parts r) rest texts widths
change_again (UpdateMailboxMessage r) rest texts widths = row_again mailbox_message_codec mailbox_message_of (λ r. UpdateMailboxMessage r) mailbox_message_laws (mailbox_message_parts r) rest texts widths
change_again (RemoveMailboxMessage k) rest texts widths = row_again u32_u32_key_codec (λ c. c) (λ k. RemoveMailboxMessage k) u32_u32_key_laws (k.0, k.1) rest texts widths
change_again (InsertDeletedMessage r) rest texts widths = row_again deleted_message_codec deleted_message_of (λ r. InsertDeletedMessage r) deleted_message_laws (deleted_message_parts r) rest texts widths
change_again (UpdateDeletedMessage r) rest texts widths = row_again deleted_message_codec deleted_message_of (λ r. UpdateDeletedMessage r) deleted_message_laws (deleted_message_parts r) rest texts widths
change_again (RemoveDeletedMessage k) rest texts widths = row_again u32_u32_key_codec (λ c. c) (λ k. RemoveDeletedMessage k) u32_u32_key_laws (k.0, k.1) rest texts widths
change_again (InsertFlagName r) rest texts widths = row_again flag_name_codec flag_name_of (λ r. InsertFlagName r) flag_name_laws (flag_name_parts r) rest texts widths
change_again (UpdateFlagName r) rest texts widths = row_again flag_name_codec flag_name_of (λ r. UpdateFlagName r) flag_name_laws (flag_name_parts r) rest texts widths
change_again (RemoveFlagName k) rest texts widths = row_again u64_key_codec (λ c. c) (λ k. RemoveFlagName k) u64_key_laws k rest texts widths
change_again (InsertFlagRow r) rest texts widths = row_again flag_codec flag_of (λ r. InsertFlagRow r) flag_laws (flag_parts r) rest texts widths
change_again (UpdateFlagRow r) rest texts widths = row_again flag_codec flag_of (λ r. UpdateFlagRow r) flag_laws (flag_parts r) rest texts widths
change_again (RemoveFlagRow k) rest texts widths = row_again u32_u32_u64_key_codec u32_u32_u64_key_of (λ k. RemoveFlagRow k) u32_u32_u64_key_laws (k.0, (k.1, k.2)) rest texts widths
change_again (InsertBodyPart r) rest texts widths = row_again body_part_codec body_part_of (λ r. InsertBodyPart r) body_part_laws (body_part_parts r) rest texts widths
change_again (UpdateBodyPart r) rest texts widths = row_again body_part_codec body_part_of (λ r. UpdateBodyPart r) body_part_laws (body_part_parts r) rest texts widths
change_again (RemoveBodyPart k) rest texts widths = row_again u64_key_codec (λ c. c) (λ k. RemoveBodyPart k) u64_key_laws k rest texts widths
change_again (InsertPartNumber r) rest texts widths = row_again part_number_codec part_number_of (λ r. InsertPartNumber r) part_number_laws (part_number_parts r) rest texts widths
change_again (UpdatePartNumber r) rest texts widths = row_again part_number_codec part_number_of (λ r. UpdatePartNumber r) part_number_laws (part_number_parts r) rest texts widths
change_again (RemovePartNumber k) rest texts widths = row_again u64_text_key_codec (λ c. c) (λ k. RemovePartNumber k) u64_text_key_laws (k.0, k.1) rest texts widths
change_again (InsertFieldName r) rest texts widths = row_again field_name_codec field_name_of (λ r. InsertFieldName r) field_name_laws (field_name_parts r) rest texts widths
change_again (UpdateFieldName r) rest texts widths = row_again field_name_codec field_name_of (λ r. UpdateFieldName r) field_name_laws (field_name_parts r) rest texts widths
change_again (RemoveFieldName k) rest texts widths = row_again u64_key_codec (λ c. c) (λ k. RemoveFieldName k) u64_key_laws k rest texts widths
change_again (InsertHeaderField r) rest texts widths = row_again header_field_codec header_field_of (λ r. InsertHeaderField r) header_field_laws (header_field_parts r) rest texts widths
change_again (UpdateHeaderField r) rest texts widths = row_again header_field_codec header_field_of (λ r. UpdateHeaderField r) header_field_laws (header_field_parts r) rest texts widths
change_again (RemoveHeaderField k) rest texts widths = row_again u64_text_u32_key_codec u64_text_u32_key_of (λ k. RemoveHeaderField k) u64_text_u32_key_laws (k.0, (k.1, k.2)) rest texts widths
change_again (InsertAddressRow r) rest texts widths = row_again address_codec address_of (λ r. InsertAddressRow r) address_laws (address_parts r) rest texts widths
change_again (UpdateAddressRow r) rest texts widths = row_again address_codec address_of (λ r. UpdateAddressRow r) address_laws (address_parts r) rest texts widths
change_again (RemoveAddressRow k) rest texts widths = row_again u64_key_codec (λ c. c) (λ k. RemoveAddressRow k) u64_key_laws k rest texts widths
change_again (InsertAddressField r) rest texts widths = row_again address_field_codec address_field_of (λ r. InsertAddressField r) address_field_laws (address_field_parts r) rest texts widths
change_again (UpdateAddressField r) rest texts widths = row_again address_field_codec address_field_of (λ r. UpdateAddressField r) address_field_laws (address_field_parts r) rest texts widths
change_again (RemoveAddressField k) rest texts widths = row_again u64_text_u32_u32_key_codec u64_text_u32_u32_key_of (λ k. RemoveAddressField k) u64_text_u32_u32_key_laws (k.0, (k.1, (k.2, k.3))) rest texts widths
change_again (InsertDateField r) rest texts widths = row_again date_field_codec date_field_of (λ r. InsertDateField r) date_field_laws (date_field_parts r) rest texts widths
change_again (UpdateDateField r) rest texts widths = row_again date_field_codec date_field_of (λ r. UpdateDateField r) date_field_laws (date_field_parts r) rest texts widths
change_again (RemoveDateField k) rest texts widths = row_again u64_text_u32_key_codec u64_text_u32_key_of (λ k. RemoveDateField k) u64_text_u32_key_laws (k.0, (k.1, k.2)) rest texts widths
change_again (InsertMessageId r) rest texts widths = row_again message_id_codec message_id_of (λ r. InsertMessageId r) message_id_laws (message_id_parts r) rest texts widths
change_again (UpdateMessageId r) rest texts widths = row_again message_id_codec message_id_of (λ r. UpdateMessageId r) message_id_laws (message_id_parts r) rest texts widths
change_again (RemoveMessageId k) rest texts widths = row_again u64_text_u32_u32_key_codec u64_text_u32_u32_key_of (λ k. RemoveMessageId k) u64_text_u32_u32_key_laws (k.0, (k.1, (k.2, k.3))) rest texts widths
change_again (InsertUnparsedMessage r) rest texts widths = row_again unparsed_message_codec unparsed_message_of (λ r. InsertUnparsedMessage r) unparsed_message_laws (unparsed_message_parts r) rest texts widths
change_again (UpdateUnparsedMessage r) rest texts widths = row_again unparsed_message_codec unparsed_message_of (λ r. UpdateUnparsedMessage r) unparsed_message_laws (unparsed_message_parts r) rest texts widths
change_again (RemoveUnparsedMessage k) rest texts widths = row_again u64_key_codec (λ c. c) (λ k. RemoveUnparsedMessage k) u64_key_laws k rest texts widths
change_again (InsertSubscription r) rest texts widths = row_again subscription_codec subscription_of (λ r. InsertSubscription r) subscription_laws (subscription_parts r) rest texts widths
change_again (UpdateSubscription r) rest texts widths = row_again subscription_codec subscription_of (λ r. UpdateSubscription r) subscription_laws (subscription_parts r) rest texts widths
change_again (RemoveSubscription k) rest texts widths = row_again u32_text_key_codec (λ c. c) (λ k. RemoveSubscription k) u32_text_key_laws (k.0, k.1) rest texts widths
change_again (InsertCounters r) rest texts widths = row_again counters_codec counters_of (λ r. InsertCounters r) counters_laws (counters_parts r) rest texts widths
change_again (UpdateCounters r) rest texts widths = row_again counters_codec counters_of (λ r. UpdateCounters r) counters_laws (counters_parts r) rest texts widths
change_again (RemoveCounters k) rest texts widths = row_again nothing_key_codec (λ c. c) (λ k. RemoveCounters k) nothing_key_laws k rest texts widths
change_again (DropMailbox mailbox) rest texts widths = ap (mapped (λ m. DropMailbox m)) (u32_key_laws.again mailbox rest texts widths)

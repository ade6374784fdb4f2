-- a row that is copied to the end of a text
pub mod Copied
-- a byte's value in decimal, digit by digit: `lines::push_byte`
pub mod ByteDigits

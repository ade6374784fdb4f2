-- The definition of how a text is printed on one line.

-- believe: the escape of a character, and a text character by character
pub mod Shown

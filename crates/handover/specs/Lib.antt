-- What is handed over of groups, bodies and ratios: the numbers in lent memory, and the answer by how many they are.
pub mod Answers
pub mod Numbers
pub mod Inside
